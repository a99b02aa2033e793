-- Each rule sends only to places that the processor stored or an executed block named. Assumes nothing.
use Rattle.std.proofs.Common.{◌≡◌, ℕ, zero, suc, ◌+◌, ◌*◌, ◌/◌, ◌%◌, ◌<◌, ◌≤◌, Bool, true, false, cond, not, ◌&&◌, ◌||◌, eqb, ltb, leb, ◌⊎◌, List, [], ◌∷◌, length, take, is_ok, Some, None, Ok, Err, Option, Result, sym, refl, ap, ◌∙◌, subst, inl, inr, ⊎_elim, not-suc-le-zero, mod-eq_of_lt, arith}
use Rattle.std.proofs.lemmas.List.{length-take}
use Rattle.std.proofs.lemmas.Bool.{cases_eq, and_parts, and_from, or_left, or_right, eqb-false, eq-eqb, leb-true, leb-false, le-leb, lt-ltb}
use Rattle.storage.specs.Memory.{Verdict}
use Rattle.drive.specs.Disk.{is_good, same_track}
use Rattle.drive.specs.Search.{ids, searched, some_of}
use Rattle.drive.specs.declared.geometry.Track.{Track}
use Rattle.drive.specs.declared.search.NoRecord.{NoRecord}
use Rattle.card.specs.Acts.{World, Executed, to_word, to_sector, Act, done, send, put, then}
use Rattle.card.specs.Blocks.{even, modifier, head, sector, key, count, data_address, operation_of, fits, lawful, lawful_status, control_clear, input_fits, input, chaining, chain, argument, sector_now, left}
use Rattle.card.specs.Calls.{Turn, turn, in_state, with_residual, at_position, is_busy, command_of, meets_busy, known, served}
use Rattle.card.specs.Rules.{call}
use Rattle.runs.specs.Runs.{Ran, run}
use Rattle.runs.specs.Named.{stores_to, processor_stored, names_word, names_sector, some_below, names_by, names, named, found_at}
use Rattle.runs.specs.Places.{Place, word_place, data_place}
use Rattle.card.specs.Steps.{failed_passing, finished, checked_head, checked_operation, checked, residual_for, fetched, fetch, move, destination, landed, under_heads, write_ends, sector_failed_passing, sector_done, or_stopped, transferred, words_left, sector_address, verify_sector, read_sector, gathered, write_data_sector, found, placed, searched_sector, sector_step, status_words, status_sent, send_status, in_hand, step}
use Rattle.card.specs.Words.{fetch_words, store_words, words_of}
use Rattle.answers.specs.declared.answer.Answer.TheVariants.{Done, StoreRefused, NothingWaits, Stepped, Idle as NothingToDo}
use Rattle.answers.specs.declared.answer.Exception.{Exception}
use Rattle.answers.specs.declared.answer.Exception.TheVariants.{Storage, NoRecordFound, FileDataCheck}
use Rattle.card.specs.declared.call.Call.{Call}
use Rattle.card.specs.declared.call.Call.TheVariants.{Command as Commanded, Halt, Store, Readiness, Service, Step}
use Rattle.card.specs.declared.call.Command.{Command}
use Rattle.card.specs.declared.call.Command.TheVariants.{ReadDeviceId, Prepare, DeviceReset, Start, StartCycleStealStatus}
use Rattle.card.specs.declared.control_block.Block.{Block}
use Rattle.card.specs.declared.control_block.Operation.{Operation}
use Rattle.card.specs.declared.control_block.Operation.TheVariants.{Seek, Recalibrate, ReadData, WriteData, ReadVerify}
use Rattle.card.specs.declared.registers.Card.{Card}
use Rattle.card.specs.declared.registers.Position.{Position}
use Rattle.card.specs.declared.registers.Purpose.{Purpose}
use Rattle.card.specs.declared.registers.Purpose.TheVariants.{Operation as ForOperation, Status as ForStatus}
use Rattle.card.specs.declared.registers.State.{State}
use Rattle.card.specs.declared.registers.State.TheVariants.{Idle, Fetching, Moving, Sector, Status}
use Rattle.answers.specs.declared.waiting.Waiting.{Waiting}
use Rattle.card.specs.declared.transfer.Stopped.{Stopped}
use Rattle.runs.proofs.Safe.{Kept, kept_put, Safe, safe_then, safe_map, safe_cond, safe_fetch, safe_store}

-- a list has an element
abbrev pub Has : {X : Type 0} → List X → X → Type 0
Has [] e = ⊥
Has (x ∷ xs) e = (x ≡ e) ⊎ Has xs e

pub has_some : {X : Type 0} (f : X → Bool) (E : List X) (e : X) → Has E e → f e ≡ true → some_of f E ≡ true
has_some f [] e has t = absurd has
has_some f (x ∷ xs) e has t =
    ⊎_elim (λ here. or_left (f x) (some_of f xs) (ap f here ∙ t)) (λ later. or_right (f x) (some_of f xs) (has_some f xs e later t)) has

some_below_lem : (test : ℕ → Bool) (n i : ℕ) → i < n → test i ≡ true → some_below test n ≡ true
unfolding some_below
some_below_lem test zero i below t = absurd (not-suc-le-zero below)
some_below_lem test (suc n) i below t =
    ⊎_elim (λ e. or_left (test n) (some_below test n) (ap test (sym e) ∙ t)) (λ ne. or_right (test n) (some_below test n) (some_below_lem test n i (omega arith) t)) (cases_eq i n)

abbrev pub block_at : Purpose → Block → Position → Executed
block_at p b q = record { purpose = p; block = b; position = q }

-- what is known of a card in a state: its block was executed, at this position, and has come so far
abbrev pub StateOk : State → Position → List Executed → Type 0
StateOk Idle p E = Unit {0}
StateOk (Fetching q a) p E = Unit {0}
StateOk (Moving b) p E = Unit {0}
StateOk (Sector b n) p E = Has E (block_at ForOperation b p) × (sector b + n ≤ 59) × ((n ≡ 0) ⊎ (n * 256 < count b))
StateOk (Status b) p E = (q : Position) × Has E (block_at ForStatus b q)

same_track_lem : (t : Track) → same_track t t ≡ true
same_track_lem t = and_from (eqb t.cylinder t.cylinder) (eqb t.head t.head) (eq-eqb t.cylinder t.cylinder refl) (eq-eqb t.head t.head refl)

word_named : (b : Block) (a i : ℕ) → data_address b ≤ a → a + 2 * i < data_address b + count b → names_word b (word_place (a + 2 * i)) ≡ true
word_named b a i low high =
    and_from (leb (data_address b) (a + 2 * i)) (ltb (a + 2 * i) (data_address b + count b)) (le-leb (data_address b) (a + 2 * i) (omega arith)) (lt-ltb (a + 2 * i) (data_address b + count b) high)

module _ (w₀ : World) (calls : List Call) where
  unfoldable pub Covered : List Executed → Place → Type 0
  Covered E pl = (processor_stored w₀.memory calls pl ≡ true) ⊎ (named w₀.disk E pl ≡ true)

  unfoldable pub TurnOk : Turn → World → List Executed → Type 0
  TurnOk t w E = StateOk t.card.state t.card.position E × Kept w₀ w

  unfoldable pub SafeTurn : List Executed → Act Turn → World → Type 0
  SafeTurn E a w = Safe Covered TurnOk E a w

  module _ (E : List Executed) (w : World) (kept : Kept w₀ w) where
    pub safe_failed : (spoiled : Bool) (c : Card) (a : ℕ) (e : Exception) → SafeTurn E (failed_passing spoiled c a e) w
    unfolding SafeTurn TurnOk Safe
    safe_failed spoiled c a e = (tt, kept)

    pub safe_stopped : (spoiled : Bool) (c : Card) (b : Block) (n : ℕ) (e : Exception) → SafeTurn E (sector_failed_passing spoiled c b n e) w
    unfolding SafeTurn TurnOk Safe
    safe_stopped spoiled c b n e = (tt, kept)

    pub safe_finished : (c : Card) (b : Block) → SafeTurn E (finished c b) w
    unfolding SafeTurn TurnOk Safe
    safe_finished c b = safe_cond Covered TurnOk E w (chaining b) _ _ (λ _. (tt, kept)) (λ _. (tt, kept))

    pub safe_done : (c : Card) (b : Block) (n : ℕ) → Has E (block_at ForOperation b c.position) → sector b + n ≤ 59 → SafeTurn E (sector_done c b n) w
    unfolding SafeTurn TurnOk Safe
    safe_done c b n has low =
        safe_cond Covered TurnOk E w (leb (left b n) 256) _ _ (λ _. safe_finished (write_ends b (sector_now b n + 1) c) b)
        (λ more. safe_cond Covered TurnOk E w (leb 59 (sector_now b n)) _ _ (λ _. (tt, kept))
        (λ under. next (leb-false (left b n) 256 more) (leb-false 59 (sector_now b n) under)))
      where
        now : sector_now b n ≡ sector b + n
        now = mod-eq_of_lt (omega arith)

        next : 256 < left b n → sector_now b n < 59 → Safe Covered TurnOk E (done (turn (in_state (Sector b (n + 1)) c) Stepped)) w
        next more under = ((has, omega (arith, now), inr (omega arith)), kept)

  -- one sector of a block that was executed
  module _ (E : List Executed) (c : Card) (b : Block) (n : ℕ) (has : Has E (block_at ForOperation b c.position)) (low : sector b + n ≤ 59) (far : n * 256 < count b) where
    word_covered : operation_of (modifier b) ≡ Some ReadData → (i : ℕ) → 2 * i < left b n → Covered E (word_place (sector_address b n + 2 * i))
    unfolding Covered
    word_covered op i more =
        inr (has_some (names w₀.disk (word_place (sector_address b n + 2 * i))) E (block_at ForOperation b c.position) has
        (ap (λ (o : Option Operation). names_by o w₀.disk (block_at ForOperation b c.position) (word_place (sector_address b n + 2 * i))) op
        ∙ word_named b (sector_address b n) i (omega arith) (omega arith)))

    data_covered : operation_of (modifier b) ≡ Some WriteData → (p : ℕ) → found_at p (searched (argument b n) (ids w₀.disk (under_heads c.position))) ≡ true → Covered E (data_place (under_heads c.position) p)
    unfolding Covered
    data_covered op p hit =
        let t = under_heads c.position in
        let here : names_sector w₀.disk b t p n ≡ true =
        and_from (ltb (n * 256) (count b) && leb (sector b + n) 59) (found_at p (searched (argument b n) (ids w₀.disk t)))
        (and_from (ltb (n * 256) (count b)) (leb (sector b + n) 59) (lt-ltb (n * 256) (count b) far) (le-leb (sector b + n) 59 low)) hit in
        inr (has_some (names w₀.disk (data_place t p)) E (block_at ForOperation b c.position) has
        (ap (λ (o : Option Operation). names_by o w₀.disk (block_at ForOperation b c.position) (data_place t p)) op
        ∙ and_from (same_track t t) (some_below (names_sector w₀.disk b t p) 60) (same_track_lem t) (some_below_lem (names_sector w₀.disk b t p) 60 n (omega arith) here)))

    stopped_or : (w : World) → Kept w₀ w → (r : ℕ) (s : Option Stopped) (go_on : Act Turn) → SafeTurn E go_on w → SafeTurn E (or_stopped (with_residual r c) b n s go_on) w
    stopped_or w kept r None go_on safe = safe
    stopped_or w kept r (Some s) go_on safe = safe_stopped E w kept false (with_residual r c) b n (Storage s.fault s.address)

    pub safe_read : (w : World) → Kept w₀ w → (t : Track) (p : ℕ) → operation_of (modifier b) ≡ Some ReadData → SafeTurn E (read_sector c b n t p) w
    unfolding SafeTurn Safe
    safe_read w kept t p op =
        safe_cond Covered TurnOk E w (is_good (w.disk.sector t p).datum.condition) _ _
        (λ _.
        safe_then Covered TurnOk E (store_words words (sector_address b n) (key b) c.residual) (λ m. transferred c b n m) w
        (safe_store Covered w₀ (λ m w' E'. Safe Covered TurnOk E' (transferred c b n m) w') E words w (sector_address b n) (key b) c.residual kept
        (λ i h. word_covered op i (few i h))
        (λ m w' kept'. stopped_or w' kept' m.residual m.stopped _ (safe_done E w' kept' (with_residual m.residual c) b n has low))))
        (λ _. safe_stopped E w kept false c b n (FileDataCheck (sector_now b n)))
      where
        words : List ℕ
        words = take (words_left b n) (words_of (w.disk.sector t p).datum.bytes)

        few : (i : ℕ) → i < length words → 2 * i < left b n
        few i h = omega (arith, length-take (words_left b n) (words_of (w.disk.sector t p).datum.bytes))

    pub safe_write : (w : World) → Kept w₀ w → (p : ℕ) → operation_of (modifier b) ≡ Some WriteData → found_at p (searched (argument b n) (ids w₀.disk (under_heads c.position))) ≡ true
        → SafeTurn E (write_data_sector c b n (under_heads c.position) p) w
    unfolding SafeTurn Safe
    safe_write w kept p op hit =
        safe_then Covered TurnOk E (fetch_words (words_left b n) (sector_address b n) (key b) c.residual) (λ f. gathered c b n (under_heads c.position) p f) w
        (safe_fetch Covered (λ f w' E'. Safe Covered TurnOk E' (gathered c b n (under_heads c.position) p f) w') E w (words_left b n) (sector_address b n) (key b) c.residual
        (λ f. stopped_or w kept f.moved.residual f.moved.stopped _ (
          data_covered op p hit,
          safe_done E (put (to_sector (under_heads c.position) p f.words) w) (kept_put w₀ w (to_sector (under_heads c.position) p f.words) kept) (with_residual f.moved.residual c) b n has low,
        )))

    pub safe_verify : (w : World) → Kept w₀ w → (t : Track) (p : ℕ) → SafeTurn E (verify_sector c b n t p) w
    unfolding SafeTurn Safe
    safe_verify w kept t p =
        safe_cond Covered TurnOk E w (is_good (w.disk.sector t p).datum.condition) _ _
        (λ _. safe_done E w kept c b n has low) (λ _. safe_stopped E w kept false c b n (FileDataCheck (sector_now b n)))

    pub safe_found : (w : World) → Kept w₀ w → StateOk c.state c.position E → (p : ℕ) → found_at p (searched (argument b n) (ids w₀.disk (under_heads c.position))) ≡ true
        → (o : Option Operation) → operation_of (modifier b) ≡ o → SafeTurn E (found c b n (under_heads c.position) p o) w
    unfolding SafeTurn TurnOk Safe
    safe_found w kept ok p hit (Some ReadData) op = safe_read w kept (under_heads c.position) p op
    safe_found w kept ok p hit (Some WriteData) op = safe_write w kept p op hit
    safe_found w kept ok p hit (Some ReadVerify) op = safe_verify w kept (under_heads c.position) p
    safe_found w kept ok p hit (Some Seek) op = (ok, kept)
    safe_found w kept ok p hit (Some Recalibrate) op = (ok, kept)
    safe_found w kept ok p hit None op = (ok, kept)

    pub safe_search : (w : World) → Kept w₀ w → StateOk c.state c.position E → SafeTurn E (searched_sector c b n (under_heads c.position)) w
    unfolding SafeTurn Safe
    safe_search w kept ok = go (searched (argument b n) (ids w.disk t)) (ap (searched (argument b n)) (sym (kept.tracks t))) where
      t : Track
      t = under_heads c.position

      go : (r : Result ℕ NoRecord) → searched (argument b n) (ids w₀.disk t) ≡ r → Safe Covered TurnOk E (placed c b n t r) w
      go (Ok p) is = safe_found w kept ok p (ap (found_at p) is ∙ eq-eqb p p refl) (operation_of (modifier b)) refl
      go (Err e) is = safe_stopped E w kept e.passed_spoiled c b n (NoRecordFound (sector_now b n))

  -- each step
  module _ (E : List Executed) (w : World) (kept : Kept w₀ w) (c : Card) where
    pub safe_sector : (b : Block) (n : ℕ) → c.state ≡ Sector b n → StateOk c.state c.position E → SafeTurn E (sector_step c b n) w
    unfolding SafeTurn TurnOk Safe
    safe_sector b n state ok =
        let known = subst (λ (s : State). StateOk s c.position E) state ok in
        safe_cond Covered TurnOk E w (eqb (count b) 0) _ _
        (λ _. safe_cond Covered TurnOk E w c.ready _ _ (λ _. safe_finished E w kept c b) (λ _. (tt, kept)))
        (λ some. safe_cond Covered TurnOk E w c.ready _ _
        (λ _. safe_search E c b n known.0 known.1
        (⊎_elim (λ none. let e = eqb-false (count b) 0 some in omega arith) (λ far. far) known.2) w kept ok)
        (λ _. (tt, kept)))

    pub safe_status : (b : Block) (q : Position) → Has E (block_at ForStatus b q) → SafeTurn E (send_status c b) w
    unfolding SafeTurn TurnOk Safe Covered
    safe_status b q has =
        safe_then Covered TurnOk E (store_words words (data_address b) (key b) c.residual) (λ m. status_sent c b m.stopped) w
        (safe_store Covered w₀ (λ m w' E'. Safe Covered TurnOk E' (status_sent c b m.stopped) w') E words w (data_address b) (key b) c.residual kept
        (λ i h. inr (has_some (names w₀.disk (word_place (data_address b + 2 * i))) E (block_at ForStatus b q) has
        (word_named b (data_address b) i (omega arith) (few i h))))
        (λ m w' kept'. sent' w' kept' m.stopped))
      where
        words : List ℕ
        words = take (count b / 2) (status_words c)

        few : (i : ℕ) → i < length words → data_address b + 2 * i < data_address b + count b
        few i h = omega (arith, length-take (count b / 2) (status_words c))

        sent' : (w' : World) → Kept w₀ w' → (s : Option Stopped) → Safe Covered TurnOk E (status_sent c b s) w'
        sent' w' kept' None = safe_finished E w' kept' c b
        sent' w' kept' (Some s) = (tt, kept')

    pub safe_move : (b : Block) → SafeTurn E (move c b) w
    unfolding SafeTurn TurnOk Safe
    safe_move b = safe_cond Covered TurnOk E w c.ready _ _ (λ _. land (destination c.position b (operation_of (modifier b)))) (λ _. (tt, kept)) where
      land : (p : Option Position) → Safe Covered TurnOk E (landed c b p) w
      land (Some p) = safe_finished E w kept (at_position p c) b
      land None = (tt, kept)

    pub safe_check : (o : Operation) (b : Block) → lawful o b ≡ true → SafeTurn E (checked_head c b o) w
    unfolding SafeTurn TurnOk Safe
    safe_check Seek b ok = safe_cond Covered TurnOk E w (ltb (head b) w.disk.heads) _ _ (λ _. (tt, kept)) (λ _. (tt, kept))
    safe_check Recalibrate b ok = (tt, kept)
    safe_check ReadData b ok = ((inl refl, low, inl refl), kept) where
      low : sector b + 0 ≤ 59
      low = let s = leb-true (sector b) 59 (and_parts (leb (sector b) 59) (even (count b)) (and_parts (leb (sector b) 59 && even (count b)) (even (data_address b)) (and_parts (control_clear b && input_fits ReadData (input b) && (not (chaining b) || even (chain b))) (fits ReadData b) ok).1).0).0 in omega arith
    safe_check WriteData b ok = ((inl refl, low, inl refl), kept) where
      low : sector b + 0 ≤ 59
      low = let s = leb-true (sector b) 59 (and_parts (leb (sector b) 59) (even (count b)) (and_parts (leb (sector b) 59 && even (count b)) (even (data_address b)) (and_parts (control_clear b && input_fits WriteData (input b) && (not (chaining b) || even (chain b))) (fits WriteData b) ok).1).0).0 in omega arith
    safe_check ReadVerify b ok = ((inl refl, low, inl refl), kept) where
      low : sector b + 0 ≤ 59
      low = let s = leb-true (sector b) 59 (and_parts (leb (sector b) 59) (not (eqb (count b) 0)) (and_parts (control_clear b && input_fits ReadVerify (input b) && (not (chaining b) || even (chain b))) (fits ReadVerify b) ok).1).0 in omega arith

    pub safe_operation : (b : Block) (o : Option Operation) → SafeTurn E (checked_operation c b o) w
    unfolding SafeTurn TurnOk Safe
    safe_operation b (Some o) = safe_cond Covered TurnOk E w (lawful o b) _ _ (λ ok. safe_check o b ok) (λ _. (tt, kept))
    safe_operation b None = (tt, kept)

    pub safe_checked : (p : Purpose) (b : Block) → SafeTurn E (checked p c b) w
    unfolding SafeTurn TurnOk Safe
    safe_checked ForOperation b = safe_operation b (operation_of (modifier b))
    safe_checked ForStatus b = safe_cond Covered TurnOk E w (lawful_status b) _ _ (λ _. ((c.position, inl refl), kept)) (λ _. (tt, kept))

  pub safe_fetched : (E : List Executed) (w : World) → Kept w₀ w → (p : Purpose) (c : Card) (a : ℕ) (words : List ℕ) (s : Option Stopped) → SafeTurn E (fetched p c a words s) w
  unfolding SafeTurn TurnOk Safe
  safe_fetched E w kept p c a words None = safe_checked E w kept c p record { address = a; words = words }
  safe_fetched E w kept p c a words (Some s) = (tt, kept)

  pub safe_fetching : (E : List Executed) (w : World) → Kept w₀ w → (p : Purpose) (c : Card) (a : ℕ) → SafeTurn E (fetch p c a) w
  unfolding SafeTurn TurnOk Safe
  safe_fetching E w kept p c a =
      safe_cond Covered TurnOk E w (even a) _ _
      (λ _. safe_then Covered TurnOk E (fetch_words 8 a 0 c.residual) (λ f. fetched p (residual_for p c f.moved.residual) a f.words f.moved.stopped) w
      (safe_fetch Covered (λ f w' E'. Safe Covered TurnOk E' (fetched p (residual_for p c f.moved.residual) a f.words f.moved.stopped) w') E w 8 a 0 c.residual
      (λ f. safe_fetched E w kept p (residual_for p c f.moved.residual) a f.words f.moved.stopped)))
      (λ _. (tt, kept))

  pub safe_step : (E : List Executed) (w : World) → Kept w₀ w → (c : Card) → StateOk c.state c.position E → SafeTurn E (step c) w
  unfolding SafeTurn TurnOk Safe
  safe_step E w kept c ok = go c.waiting where
    state : (s : State) → c.state ≡ s → Safe Covered TurnOk E (in_hand c s) w
    state Idle is = (ok, kept)
    state (Fetching p a) is = safe_fetching E w kept p c a
    state (Moving b) is = safe_move E w kept c b
    state (Sector b n) is = safe_sector E w kept c b n is ok
    state (Status b) is = let known = subst (λ (s : State). StateOk s c.position E) is ok in safe_status E w kept c b known.0 known.1

    go : (x : Option Waiting) → Safe Covered TurnOk E (elim x [ None ↦ in_hand c c.state | Some v ↦ done (turn c NothingToDo) ]) w
    go None = state c.state refl
    go (Some v) = (ok, kept)

  -- each call of the list
  pub safe_call : (E : List Executed) (w : World) → Kept w₀ w → (c : Card) → StateOk c.state c.position E → (x : Call) → Has calls x → SafeTurn E (call c x) w
  unfolding SafeTurn TurnOk Safe Covered
  safe_call E w kept c ok Halt has = (tt, kept)
  safe_call E w kept c ok Service has = serve c.enabled c.waiting where
    serve : (b : Bool) (v : Option Waiting) → TurnOk (cond b (served c v) (turn c NothingWaits)) w E
    serve true (Some v) = (ok, kept)
    serve true None = (ok, kept)
    serve false v = (ok, kept)
  safe_call E w kept c ok Step has = safe_step E w kept c ok
  safe_call E w kept c ok (Readiness r) has =
      safe_cond Covered TurnOk E w (r && not c.ready && c.enabled && not (is_busy c)) _ _ (λ _. (ok, kept)) (λ _. (ok, kept))
  safe_call E w kept c ok (Store a k x) has = go (w.memory.stores a (k % 8)) (ap (λ (f : ℕ → ℕ → Verdict). f a (k % 8)) (sym kept.verdicts)) where
    go : (v : Verdict) → w₀.memory.stores a (k % 8) ≡ v → Safe Covered TurnOk E (elim v [ Ok _ ↦ send (to_word a x) (done (turn c Done)) | Err f ↦ done (turn c (StoreRefused f)) ]) w
    go (Ok u) is = (
      inl (has_some (stores_to w₀.memory (word_place a)) calls (Store a k x) has (and_from (eqb a a) (is_ok (w₀.memory.stores a (k % 8))) (eq-eqb a a refl) (ap is_ok is))),
      (ok, kept_put w₀ w (to_word a x) kept),
    )
    go (Err f) is = (ok, kept)
  safe_call E w kept c ok (Commanded first second parity) has =
      safe_cond Covered TurnOk E w (not (eqb (first % 256) w.device)) _ _ (λ _. (ok, kept))
      (λ _. safe_cond Covered TurnOk E w (not parity) _ _ (λ _. (ok, kept))
      (λ _. safe_cond Covered TurnOk E w (is_busy c && meets_busy (command_of (first / 256))) _ _ (λ _. (ok, kept))
      (λ _. taken (command_of (first / 256)))))
    where
      taken : (k : Option Command) → Safe Covered TurnOk E (known c k second) w
      taken None = (ok, kept)
      taken (Some ReadDeviceId) = (ok, kept)
      taken (Some Prepare) = (ok, kept)
      taken (Some DeviceReset) = (tt, kept)
      taken (Some Start) = (tt, kept)
      taken (Some StartCycleStealStatus) = (tt, kept)

  -- every run of calls of the list
  pub safe_run : (xs : List Call) → ((x : Call) → Has xs x → Has calls x) → (E : List Executed) (w : World) → Kept w₀ w → (c : Card) → StateOk c.state c.position E
      → Safe Covered (λ (r : Ran) w' E'. Unit {0}) E (run c xs) w
  unfolding SafeTurn TurnOk Safe run
  safe_run [] all E w kept c ok = tt
  safe_run (x ∷ xs) all E w kept c ok =
      safe_then Covered (λ (r : Ran) w' E'. Unit {0}) E (call c x) (λ t. then (run t.card xs) (λ r. done record { card = r.card; answers = t.answer ∷ r.answers })) w
      (safe_map Covered TurnOk (λ t w' E'. Safe Covered (λ (r : Ran) w'' E''. Unit {0}) E' (then (run t.card xs) (λ r. done record { card = r.card; answers = t.answer ∷ r.answers })) w')
      (λ t w' E' good.
      safe_then Covered (λ (r : Ran) w'' E''. Unit {0}) E' (run t.card xs) (λ r. done record { card = r.card; answers = t.answer ∷ r.answers }) w'
      (safe_map Covered (λ (r : Ran) w'' E''. Unit {0}) (λ r w'' E''. Unit {0}) (λ r w'' E'' u. tt) E' (run t.card xs) w'
      (safe_run xs (λ y h. all y (inr h)) E' w' good.1 t.card good.0)))
      E (call c x) w (safe_call E w kept c ok x (all x (inl refl))))
