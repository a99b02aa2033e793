-- Each rule looks only at what it may, and executes and sends exactly what it has to. Assumes nothing.
use Rattle.std.proofs.Common.{◌≡◌, ℕ, ◌+◌, ◌/◌, ◌%◌, Bool, true, false, cond, not, ◌&&◌, eqb, ltb, leb, List, [], ◌∷◌, ◌++◌, take, is_ok, Some, None, Ok, Err, Option, Result, sym, refl, ap, ◌∙◌, subst, ap₂, inl, inr, ⊎_elim, arith}
use Rattle.std.proofs.lemmas.List.{append-nil, length-take}
use Rattle.std.proofs.lemmas.Bool.{cases_Bool, and_from}
use Rattle.storage.specs.Memory.{Verdict}
use Rattle.drive.specs.Disk.{is_good}
use Rattle.drive.specs.declared.search.NoRecord.{NoRecord}
use Rattle.card.specs.Acts.{World, Query, device_address, head_count, storing, ids_of, condition_of, data_of, Sent, to_word, to_sector, Executed, Act, done, ask, send, ends, put, looked, executed, sent, then}
use Rattle.card.specs.Blocks.{even, chaining, key, modifier, head, count, data_address, operation_of, lawful, lawful_status, left, sector_now}
use Rattle.card.specs.Calls.{Turn, turn, is_busy, command_of, meets_busy, known, at_position, with_residual}
use Rattle.runs.specs.Laws.{RunAudit}
use Rattle.runs.specs.Moments.{Moment, moments, unless_waiting, doing, can_read, can_store, words_from, allowed_from, block_from, head_fits, passes_as, passes, executes_in, while_allowed, searches, search_result, read_sends, write_sends, place_sends, found_sends, sends_in, store_sends, Finds, LooksIn, AllOf, of_all, looks_at, Audited}
use Rattle.card.specs.Rules.{call}
use Rattle.runs.specs.Runs.{run}
use Rattle.card.specs.Steps.{finished, executes, checked_head, checked_operation, checked, residual_for, fetched, fetch, destination, landed, move, under_heads, write_ends, sector_done, or_stopped, transferred, words_left, sector_address, verify_sector, read_sector, gathered, write_data_sector, found, placed, sector_step, status_words, status_sent, send_status, in_hand}
use Rattle.card.specs.Words.{Moved, Fetched, fetch_words, store_words, words_of}
use Rattle.answers.specs.declared.answer.Answer.TheVariants.{Done, StoreRefused, Idle as NothingToDo}
use Rattle.card.specs.declared.call.Call.{Call}
use Rattle.card.specs.declared.call.Call.TheVariants.{Command as Commanded, Halt, Store, Readiness, Service, Step}
use Rattle.card.specs.declared.call.Command.{Command}
use Rattle.card.specs.declared.call.Command.TheVariants.{ReadDeviceId, Prepare, DeviceReset, Start, StartCycleStealStatus}
use Rattle.card.specs.declared.control_block.Block.{Block}
use Rattle.card.specs.declared.control_block.Operation.{Operation}
use Rattle.card.specs.declared.control_block.Operation.TheVariants.{Seek, Recalibrate, ReadData, WriteData, ReadVerify}
use Rattle.card.specs.declared.registers.Card.{Card}
use Rattle.card.specs.declared.registers.Position.{Position}
use Rattle.card.specs.declared.registers.Purpose.{Purpose}
use Rattle.card.specs.declared.registers.Purpose.TheVariants.{Operation as ForOperation, Status as ForStatus}
use Rattle.card.specs.declared.registers.State.{State}
use Rattle.card.specs.declared.registers.State.TheVariants.{Idle, Fetching, Moving, Sector, Status}
use Rattle.answers.specs.declared.waiting.Waiting.{Waiting}
use Rattle.card.specs.declared.transfer.Stopped.{Stopped}
use Rattle.card.proofs.Spares.{sent-then}
use Rattle.runs.proofs.Doing.{Does, looked-then, executed-then, does_done, does_as, does_ask, does_send, does_execute, does_cond, pick_executes, pick_sends, does_then, does_fetch, does_store, fetch_is}

-- what asks for no more than the device address, and executes and sends nothing
module _ (L : Query → Type 0) (dev : L device_address) (w : World) where
  quiet_told : (k : ℕ → Turn) → Does L [] [] (ask device_address (λ v. done (k v))) w
  quiet_told k = does_ask L [] [] w device_address _ dev (does_done L _ w)

  quiet_finished : (c : Card) (b : Block) → Does L [] [] (finished c b) w
  quiet_finished c b = does_cond L [] [] w (chaining b) _ _ (λ _. does_done L _ w) (λ _. quiet_told _)

  quiet_done : (c : Card) (b : Block) (n : ℕ) → Does L [] [] (sector_done c b n) w
  quiet_done c b n =
      does_cond L [] [] w (leb (left b n) 256) _ _ (λ _. quiet_finished (write_ends b (sector_now b n + 1) c) b)
      (λ _. does_cond L [] [] w (leb 59 (sector_now b n)) _ _ (λ _. quiet_told _) (λ _. does_done L _ w))

  quiet_or : (c : Card) (b : Block) (n : ℕ) (s : Option Stopped) (go_on : Act Turn) → Does L [] [] go_on w → Does L [] [] (or_stopped c b n s go_on) w
  quiet_or c b n None go_on d = d
  quiet_or c b n (Some s) go_on d = quiet_told _

  quiet_status : (c : Card) (b : Block) (s : Option Stopped) → Does L [] [] (status_sent c b s) w
  quiet_status c b None = quiet_finished c b
  quiet_status c b (Some s) = quiet_told _

  quiet_landed : (c : Card) (b : Block) (to : Option Position) → Does L [] [] (landed c b to) w
  quiet_landed c b (Some p) = quiet_finished (at_position p c) b
  quiet_landed c b None = quiet_told _

  quiet_move : (c : Card) (b : Block) → Does L [] [] (move c b) w
  quiet_move c b = does_cond L [] [] w c.ready _ _ (λ _. quiet_landed c b (destination c.position b (operation_of (modifier b)))) (λ _. quiet_told _)

  -- the check of a block
  module _ (heads : L head_count) (c : Card) (b : Block) where
    of : Purpose → Executed
    of p = record { purpose = p; block = b; position = c.position }

    does_executes : (p : Purpose) (s : State) → Does L (of p ∷ []) [] (executes p c b s) w
    unfolding of
    does_executes p s = does_execute L [] [] w _ _ (does_done L _ w)

    checks_head : (o : Operation) → Does L (cond (head_fits w.disk.heads o b) (of ForOperation ∷ []) []) [] (checked_head c b o) w
    checks_head Seek = does_ask L _ [] w head_count _ heads
        (pick_executes L (of ForOperation ∷ []) [] w (ltb (head b) w.disk.heads) _ _ (λ _. does_executes ForOperation (Moving b)) (λ _. quiet_told _))
    checks_head Recalibrate = does_executes ForOperation (Moving b)
    checks_head ReadData = does_executes ForOperation (Sector b 0)
    checks_head WriteData = does_executes ForOperation (Sector b 0)
    checks_head ReadVerify = does_executes ForOperation (Sector b 0)

    checks_operation : (o : Option Operation) → Does L (cond (passes_as w.disk.heads o b) (of ForOperation ∷ []) []) [] (checked_operation c b o) w
    checks_operation None = quiet_told _
    checks_operation (Some o) =
        let when : Bool → List Executed = λ x. cond (x && head_fits w.disk.heads o b) (of ForOperation ∷ []) [] in
        does_cond L (when (lawful o b)) [] w (lawful o b) _ _
        (λ yes'. does_as L (when true) (when (lawful o b)) [] [] _ w (ap when (sym yes')) refl (checks_head o))
        (λ no'. does_as L (when false) (when (lawful o b)) [] [] _ w (ap when (sym no')) refl (quiet_told _))

    checks : (p : Purpose) → Does L (cond (passes w.disk.heads p b) (of p ∷ []) []) [] (checked p c b) w
    checks ForOperation = checks_operation (operation_of (modifier b))
    checks ForStatus = pick_executes L (of ForStatus ∷ []) [] w (lawful_status b) _ _ (λ _. does_executes ForStatus (Status b)) (λ _. quiet_told _)

-- a step that fetches
module _ (c : Card) (w : World) (p : Purpose) (a : ℕ) where
  Fetches : Query → Type 0
  Fetches q = LooksIn (Fetching p a) Step c w q

  here : Executed
  here = record { purpose = p; block = block_from w a; position = c.position }

  position_kept : (q : Purpose) (r : ℕ) → (residual_for q c r).position ≡ c.position
  position_kept ForOperation r = refl
  position_kept ForStatus r = refl

  fetched_whole : (r : ℕ) (words : List ℕ) (s : Option Stopped) (u : World) → words ≡ words_from w.memory.words a 8 → s ≡ None → u ≡ w
      → Does Fetches (cond (passes w.disk.heads p (block_from w a)) (here ∷ []) []) [] (fetched p (residual_for p c r) a words s) u
  unfolding Fetches here of
  fetched_whole r words s u is_words is_none same =
      let E : List Executed = cond (passes w.disk.heads p (block_from w a)) (record { purpose = p; block = block_from w a; position = c.position } ∷ []) [] in
      let whole = subst (λ (q : Position). Does Fetches (cond (passes w.disk.heads p (block_from w a)) (record { purpose = p; block = block_from w a; position = q } ∷ []) []) [] (checked p (residual_for p c r) (block_from w a)) w)
      (position_kept p r) (checks Fetches tt w tt (residual_for p c r) (block_from w a) p) in
      subst (λ (v : World). Does Fetches E [] (fetched p (residual_for p c r) a words s) v) (sym same)
      (subst (λ (t : Option Stopped). Does Fetches E [] (fetched p (residual_for p c r) a words t) w) (sym is_none)
      (subst (λ (l : List ℕ). Does Fetches E [] (fetched p (residual_for p c r) a l None) w) (sym is_words) whole))

  fetched_part : (r : ℕ) (words : List ℕ) (s : Option Stopped) (x : Stopped) (u : World) → s ≡ Some x → Does Fetches [] [] (fetched p (residual_for p c r) a words s) u
  unfolding Fetches
  fetched_part r words s x u option_is_some =
      subst (λ (t : Option Stopped). Does Fetches [] [] (fetched p (residual_for p c r) a words t) u) (sym option_is_some) (quiet_told Fetches tt u _)

  fetches : Does Fetches (executes_in (Fetching p a) c.position w) [] (fetch p c a) w
  unfolding Fetches here
  fetches =
      let can : Bool = allowed_from (can_read w 0) a 8 in
      let pass : Bool = passes w.disk.heads p (block_from w a) in
      let when : Bool → Bool → List Executed = λ x y. cond (x && y && pass) (here ∷ []) [] in
      let came = fetch_is w 0 8 a c.residual in
      let reading' : even a ≡ true → Does Fetches [] [] (fetch_words 8 a 0 c.residual) w = λ ok. does_fetch Fetches w 0 8 a c.residual (λ x t. (ok, refl, t)) (λ x t may. (0, (ok, refl, t), may)) in
      does_cond Fetches (when (even a) can) [] w (even a) _ _
      (λ ok. ⊎_elim
      (λ all. does_as Fetches (when true true) (when (even a) can) [] [] _ w (ap (λ (x : Bool). when x true) (sym ok) ∙ ap (λ (y : Bool). when (even a) y) (sym all)) refl
      (does_then Fetches [] (when true true) [] [] (fetch_words 8 a 0 c.residual) _ w (reading' ok)
      (fetched_whole _ _ _ _ (came.whole all).0 (came.whole all).1 came.same)))
      (λ none. does_as Fetches (when true false) (when (even a) can) [] [] _ w (ap (λ (x : Bool). when x false) (sym ok) ∙ ap (λ (y : Bool). when (even a) y) (sym none)) refl
      (does_then Fetches [] [] [] [] (fetch_words 8 a 0 c.residual) _ w (reading' ok) (fetched_part _ _ _ (came.part none).0 _ (came.part none).1)))
      (cases_Bool can))
      (λ odd. does_as Fetches (when false can) (when (even a) can) [] [] _ w (ap (λ (x : Bool). when x can) (sym odd)) refl (quiet_told Fetches tt w _))

-- a step that does a sector
module _ (c : Card) (w : World) (b : Block) (n : ℕ) where
  InHand : Query → Type 0
  InHand q = LooksIn (Sector b n) Step c w q

  reads_place : (p : ℕ) → Finds c w b n ReadData p → Does InHand [] (read_sends c w b n p) (read_sector c b n (under_heads c.position) p) w
  unfolding InHand
  reads_place p finds =
      let t = under_heads c.position in
      let xs : List ℕ = take (words_left b n) (words_of (w.disk.sector t p).datum.bytes) in
      let S : List Sent = while_allowed (can_store w (key b % 8)) (sector_address b n) xs in
      does_ask InHand [] _ w (condition_of t p) _ (refl, inl finds)
      (pick_sends InHand [] S w (is_good (w.disk.sector t p).datum.condition) _ _
      (λ good. does_ask InHand [] S w (data_of t p) _ (refl, finds, good)
      (does_as InHand [] [] (S ++ []) S _ w refl (append-nil S)
      (does_then InHand [] [] S [] (store_words xs (sector_address b n) (key b) c.residual) (λ m. transferred c b n m) w
      (does_store InHand (key b) xs (words_left b n) (sector_address b n) c.residual w (omega (arith, length-take (words_left b n) (words_of (w.disk.sector t p).datum.bytes)))
      (λ x tried. inr ((p, finds, good), refl, tried)))
      (moved (ends (store_words xs (sector_address b n) (key b) c.residual) w).world (ends (store_words xs (sector_address b n) (key b) c.residual) w).result))))
      (λ _. quiet_told InHand tt w _))
    where
      moved : (u : World) (m : Moved) → Does InHand [] [] (transferred c b n m) u
      moved u m = quiet_or InHand tt u (with_residual m.residual c) b n m.stopped _ (quiet_done InHand tt u (with_residual m.residual c) b n)

  -- what is done with fetched words
  gathers : (p r : ℕ) (words l : List ℕ) (s : Option Stopped) (u : World) → words ≡ l → s ≡ None → u ≡ w
      → Does InHand [] (to_sector (under_heads c.position) p l ∷ []) (gathered c b n (under_heads c.position) p record { words = words; moved = record { residual = r; stopped = s } }) u
  unfolding InHand
  gathers p r words l s u is_words is_none same =
      let t = under_heads c.position in
      let S : List Sent = to_sector t p l ∷ [] in
      let from : List ℕ → Option Stopped → Fetched = λ k z. record { words = k; moved = record { residual = r; stopped = z } } in
      let whole : Does InHand [] S (gathered c b n t p (from l None)) w = does_send InHand [] [] w (to_sector t p l) _ (quiet_done InHand tt (put (to_sector t p l) w) (with_residual r c) b n) in
      subst (λ (v : World). Does InHand [] S (gathered c b n t p (from words s)) v) (sym same)
      (subst (λ (z : Option Stopped). Does InHand [] S (gathered c b n t p (from words z)) w) (sym is_none)
      (subst (λ (k : List ℕ). Does InHand [] S (gathered c b n t p (from k None)) w) (sym is_words) whole))

  gathers_not : (p r : ℕ) (words : List ℕ) (s : Option Stopped) (x : Stopped) (u : World) → s ≡ Some x
      → Does InHand [] [] (gathered c b n (under_heads c.position) p record { words = words; moved = record { residual = r; stopped = s } }) u
  unfolding InHand
  gathers_not p r words s x u option_is_some =
      subst (λ (z : Option Stopped). Does InHand [] [] (gathered c b n (under_heads c.position) p record { words = words; moved = record { residual = r; stopped = z } }) u) (sym option_is_some) (quiet_told InHand tt u _)

  writes_place : (p : ℕ) → Finds c w b n WriteData p → Does InHand [] (write_sends c w b n p) (write_data_sector c b n (under_heads c.position) p) w
  unfolding InHand
  writes_place p finds =
      let t = under_heads c.position in
      let a = sector_address b n in
      let words : List ℕ = words_from w.memory.words a (words_left b n) in
      let can : Bool = allowed_from (can_read w (key b % 8)) a (words_left b n) in
      let when : Bool → List Sent = λ x. cond x (to_sector t p words ∷ []) [] in
      let came = fetch_is w (key b) (words_left b n) a c.residual in
      let f = (ends (fetch_words (words_left b n) a (key b) c.residual) w).result in
      let fetching : Does InHand [] [] (fetch_words (words_left b n) a (key b) c.residual) w =
      does_fetch InHand w (key b) (words_left b n) a c.residual (λ x tried. ((p, finds), refl, tried)) (λ x tried may. (key b % 8, ((p, finds), refl, tried), may)) in
      ⊎_elim
      (λ all. does_as InHand [] [] (when true) (when can) _ w refl (ap when (sym all))
      (does_then InHand [] [] [] (when true) (fetch_words (words_left b n) a (key b) c.residual) (λ g. gathered c b n t p g) w fetching
      (gathers p f.moved.residual f.words words f.moved.stopped _ (came.whole all).0 (came.whole all).1 came.same)))
      (λ none. does_as InHand [] [] (when false) (when can) _ w refl (ap when (sym none))
      (does_then InHand [] [] [] [] (fetch_words (words_left b n) a (key b) c.residual) (λ g. gathered c b n t p g) w fetching
      (gathers_not p f.moved.residual f.words f.moved.stopped (came.part none).0 _ (came.part none).1)))
      (cases_Bool can)

  verifies_place : (p : ℕ) → Finds c w b n ReadVerify p → Does InHand [] [] (verify_sector c b n (under_heads c.position) p) w
  unfolding InHand
  verifies_place p finds =
      does_ask InHand [] [] w (condition_of (under_heads c.position) p) _ (refl, inr finds)
      (does_cond InHand [] [] w (is_good (w.disk.sector (under_heads c.position) p).datum.condition) _ _ (λ _. quiet_done InHand tt w c b n) (λ _. quiet_told InHand tt w _))

  does_place : (o : Option Operation) (p : ℕ) → operation_of (modifier b) ≡ o → searches c b ≡ true → search_result c w b n ≡ Ok p → Does InHand [] (place_sends o c w b n p) (found c b n (under_heads c.position) p o) w
  does_place (Some ReadData) p op made is = reads_place p record { made = made; operation = op; place = is }
  does_place (Some WriteData) p op made is = writes_place p record { made = made; operation = op; place = is }
  does_place (Some ReadVerify) p op made is = verifies_place p record { made = made; operation = op; place = is }
  does_place (Some Seek) p op made is = does_done InHand _ w
  does_place (Some Recalibrate) p op made is = does_done InHand _ w
  does_place None p op made is = does_done InHand _ w

  does_placed : searches c b ≡ true → (r : Result ℕ NoRecord) → search_result c w b n ≡ r
      → Does InHand [] (found_sends (operation_of (modifier b)) c w b n r) (placed c b n (under_heads c.position) r) w
  unfolding InHand
  does_placed made (Ok p) is = does_place (operation_of (modifier b)) p refl made is
  does_placed made (Err e) is = quiet_told InHand tt w _

  none_made : (x y : Bool) (Z : List Sent) → y ≡ true → [] ≡ cond (x && not y) Z []
  none_made true y Z e = ap (λ (z : Bool). cond (not z) Z []) (sym e)
  none_made false y Z e = refl

  does_sector : Does InHand [] (sends_in (Sector b n) c w) (sector_step c b n) w
  unfolding InHand
  does_sector =
      let Z : List Sent = found_sends (operation_of (modifier b)) c w b n (search_result c w b n) in
      let zero' : Bool = eqb (count b) 0 in
      let when : Bool → Bool → List Sent = λ x y. cond (x && not y) Z [] in
      does_cond InHand [] (when c.ready zero') w zero' _ _
      (λ none. does_as InHand [] [] [] (when c.ready zero') _ w refl (none_made c.ready zero' Z none)
      (does_cond InHand [] [] w c.ready _ _ (λ _. quiet_finished InHand tt w c b) (λ _. quiet_told InHand tt w _)))
      (λ some. does_cond InHand [] (when c.ready zero') w c.ready _ _
      (λ on.
      let made : searches c b ≡ true = and_from c.ready (not zero') on (ap not some) in
      does_as InHand [] [] Z (when c.ready zero') _ w refl (ap (λ (x : Bool). when x false) (sym on) ∙ ap (λ (y : Bool). when c.ready y) (sym some))
      (does_ask InHand [] Z w (ids_of (under_heads c.position)) _ (made, refl)
      (does_placed made (search_result c w b n) refl)))
      (λ off. does_as InHand [] [] [] (when c.ready zero') _ w refl (ap (λ (x : Bool). when x zero') (sym off)) (quiet_told InHand tt w _)))

-- the step that sends status
does_status : (c : Card) (w : World) (b : Block) → Does (LooksIn (Status b) Step c w) [] (sends_in (Status b) c w) (send_status c b) w
does_status c w b =
    let L : Query → Type 0 = LooksIn (Status b) Step c w in
    let xs : List ℕ = take (count b / 2) (status_words c) in
    let S : List Sent = while_allowed (can_store w (key b % 8)) (data_address b) xs in
    let act = store_words xs (data_address b) (key b) c.residual in
    does_as L [] [] (S ++ []) S _ w refl (append-nil S)
    (does_then L [] [] S [] act (λ m. status_sent c b m.stopped) w
    (does_store L (key b) xs (count b / 2) (data_address b) c.residual w (omega (arith, length-take (count b / 2) (status_words c))) (λ x tried. inr (refl, tried)))
    (quiet_status L tt (ends act w).world c b (ends act w).result.stopped))

-- what a card in a state does at a step
does_hand : (c : Card) (w : World) (s : State) → Does (LooksIn s Step c w) (executes_in s c.position w) (sends_in s c w) (in_hand c s) w
unfolding Fetches InHand
does_hand c w Idle = does_done (LooksIn Idle Step c w) _ w
does_hand c w (Fetching p a) = fetches c w p a
does_hand c w (Moving b) = quiet_move (LooksIn (Moving b) Step c w) tt w c b
does_hand c w (Sector b n) = does_sector c w b n
does_hand c w (Status b) = does_status c w b

-- every call, at every moment
abbrev CallDoes : Card → World → Call → Type 0
CallDoes c w x = Does (LooksIn (doing c x) x c w) (executes_in (doing c x) c.position w) (store_sends x w ++ sends_in (doing c x) c w) (call c x) w

does_step : (c : Card) (w : World) → CallDoes c w Step
does_step c w = go c.waiting where
  go : (x : Option Waiting) → Does (LooksIn (unless_waiting x c.state) Step c w) (executes_in (unless_waiting x c.state) c.position w) (sends_in (unless_waiting x c.state) c w)
      (elim x [ None ↦ in_hand c c.state | Some v ↦ done (turn c NothingToDo) ]) w
  go None = does_hand c w c.state
  go (Some v) = does_done (LooksIn Idle Step c w) _ w

does_command : (c : Card) (w : World) (first second : ℕ) (parity : Bool) → CallDoes c w (Commanded first second parity)
does_command c w first second parity =
    does_ask L [] [] w device_address _ tt
    (does_cond L [] [] w (not (eqb (first % 256) w.device)) _ _ (λ _. does_done L _ w)
    (λ _. does_cond L [] [] w (not parity) _ _ (λ _. does_done L _ w)
    (λ _. does_cond L [] [] w (is_busy c && meets_busy (command_of (first / 256))) _ _ (λ _. does_done L _ w) (λ _. taken (command_of (first / 256))))))
  where
    L : Query → Type 0
    L q = LooksIn Idle (Commanded first second parity) c w q

    taken : (k : Option Command) → Does L [] [] (known c k second) w
    taken None = does_done L _ w
    taken (Some ReadDeviceId) = does_ask L [] [] w head_count _ tt (does_done L _ w)
    taken (Some Prepare) = does_done L _ w
    taken (Some DeviceReset) = does_done L _ w
    taken (Some Start) = does_done L _ w
    taken (Some StartCycleStealStatus) = does_done L _ w

does_processor_store : (c : Card) (w : World) (a k x : ℕ) → CallDoes c w (Store a k x)
does_processor_store c w a k x = does_ask L [] _ w (storing a (k % 8)) _ (inl (refl, refl)) (go (w.memory.stores a (k % 8)) refl) where
  L : Query → Type 0
  L q = LooksIn Idle (Store a k x) c w q

  when : Bool → List Sent
  when y = cond y (to_word a x ∷ []) [] ++ []

  go : (v : Verdict) → w.memory.stores a (k % 8) ≡ v → Does {A = Turn} L [] (when (can_store w (k % 8) a)) (elim v [ Ok _ ↦ send (to_word a x) (done (turn c Done)) | Err f ↦ done (turn c (StoreRefused f)) ]) w
  go (Ok u) is = does_as L [] [] (when true) (when (can_store w (k % 8) a)) _ w refl (ap (λ (v : Verdict). when (is_ok v)) (sym is)) (does_send L [] [] w (to_word a x) _ (does_done L _ (put (to_word a x) w)))
  go (Err f) is = does_as L [] [] (when false) (when (can_store w (k % 8) a)) _ w refl (ap (λ (v : Verdict). when (is_ok v)) (sym is)) (does_done L _ w)

does_call : (c : Card) (w : World) (x : Call) → CallDoes c w x
does_call c w (Commanded first second parity) = does_command c w first second parity
does_call c w Halt = does_done (LooksIn Idle Halt c w) _ w
does_call c w (Store a k x) = does_processor_store c w a k x
does_call c w (Readiness r) =
    does_cond (LooksIn Idle (Readiness r) c w) [] [] w (r && not c.ready && c.enabled && not (is_busy c)) _ _
    (λ _. does_ask (LooksIn Idle (Readiness r) c w) [] [] w device_address _ tt (does_done (LooksIn Idle (Readiness r) c w) _ w)) (λ _. does_done (LooksIn Idle (Readiness r) c w) _ w)
does_call c w Service = does_done (LooksIn Idle Service c w) _ w
does_call c w Step = does_step c w

audited : (m : Moment) → Audited m
audited m = let d = does_call m.card m.world m.next in record { looks = d.looks; executes = d.executes; sends = d.sends }

-- every run
module _ (c : Card) (w : World) (x : Call) (xs : List Call) where
  abbrev pub next_card : Card
  next_card = (ends (call c x) w).result.card

  abbrev pub next_world : World
  next_world = (ends (call c x) w).world

  run_looks : looked (run c (x ∷ xs)) w ≡ looked (call c x) w ++ looked (run next_card xs) next_world
  unfolding run looked
  run_looks =
      looked-then (call c x) (λ t. then (run t.card xs) (λ r. done record { card = r.card; answers = t.answer ∷ r.answers })) w
      ∙ ap (λ (l : List Query). looked (call c x) w ++ l) (looked-then (run next_card xs) (λ r. done record { card = r.card; answers = (ends (call c x) w).result.answer ∷ r.answers }) next_world ∙ append-nil _)

  run_executes : executed (run c (x ∷ xs)) w ≡ executed (call c x) w ++ executed (run next_card xs) next_world
  unfolding run executed
  run_executes =
      executed-then (call c x) (λ t. then (run t.card xs) (λ r. done record { card = r.card; answers = t.answer ∷ r.answers })) w
      ∙ ap (λ (l : List Executed). executed (call c x) w ++ l) (executed-then (run next_card xs) (λ r. done record { card = r.card; answers = (ends (call c x) w).result.answer ∷ r.answers }) next_world ∙ append-nil _)

  pub run_sends : sent (run c (x ∷ xs)) w ≡ sent (call c x) w ++ sent (run next_card xs) next_world
  unfolding run
  run_sends =
      sent-then (call c x) (λ t. then (run t.card xs) (λ r. done record { card = r.card; answers = t.answer ∷ r.answers })) w
      ∙ ap (λ (l : List Sent). sent (call c x) w ++ l) (sent-then (run next_card xs) (λ r. done record { card = r.card; answers = (ends (call c x) w).result.answer ∷ r.answers }) next_world ∙ append-nil _)

-- a run looks at, executes and sends what its moments do
pub run_audit : (c : Card) (w : World) (calls : List Call) → RunAudit c w calls
unfolding run looked executed moments AllOf of_all
run_audit c w [] = record { each = tt; looks = refl; executes = refl; sends = refl }
run_audit c w (x ∷ xs) =
    let m : Moment = record { card = c; world = w; next = x } in
    let rest = run_audit (ends (call c x) w).result.card (ends (call c x) w).world xs in
    record {
      each = (audited m, rest.each);
      looks = run_looks c w x xs ∙ ap (λ (l : List Query). looks_at m ++ l) rest.looks;
      executes = run_executes c w x xs ∙ ap₂ (λ (k l : List Executed). k ++ l) (audited m).executes rest.executes;
      sends = run_sends c w x xs ∙ ap₂ (λ (k l : List Sent). k ++ l) (audited m).sends rest.sends;
    }
