-- What was neither stored by the processor nor named stays, and so do IDs and verdicts. Assumes nothing.
use Rattle.std.proofs.Common.{◌≡◌, ℕ, Bool, true, false, cond, ◌&&◌, eqb, ◌⊎◌, List, [], ◌∷◌, sym, refl, ap, ◌∙◌, subst, ap₂, inl, inr, ⊎_elim}
use Rattle.std.proofs.lemmas.Bool.{and_parts, both_ways, cases_Bool, eqb-true, or_cases, or_from, or_left, or_right, not_from_false}
use Rattle.drive.specs.Disk.{Sector, same_track, with_data}
use Rattle.drive.specs.Search.{some_of}
use Rattle.drive.specs.declared.geometry.Track.{Track}
use Rattle.card.specs.Acts.{World, Query, Ended, ended, Executed, Sent, to_word, to_sector, Act, done, ask, send, execute, answer, put, ends, sent, executed, padded, bytes_of}
use Rattle.card.specs.Calls.{new_card}
use Rattle.runs.specs.Laws.{LastSent, RunLaw, AuditedLaw, BothAlike}
use Rattle.runs.specs.Moments.{looked_in}
use Rattle.runs.specs.Named.{processor_stored, names, named, Untouched}
use Rattle.runs.specs.Places.{Agree, Place, word_place, data_place, place_of, same_place, holds, goes_to, some_to}
use Rattle.runs.specs.Runs.{Ran, run}
use Rattle.answers.specs.declared.answer.Answer.{Answer}
use Rattle.card.specs.declared.call.Call.{Call}
use Rattle.card.specs.declared.registers.Card.{Card}
use Rattle.runs.proofs.Auditing.{run_audit}
use Rattle.runs.proofs.Covering.{Covered, safe_run}
use Rattle.runs.proofs.Safe.{Kept, Safe}
use Rattle.runs.proofs.Sending.{puts, ends-puts, last_sent, alike_where}

-- a test that finds two places alike finds them equal
same_place_lem : (x y : Place) → same_place x y ≡ true → x ≡ y
same_place_lem (word_place a) (word_place b) e = ap word_place (eqb-true a b e)
same_place_lem (word_place a) (data_place u q) e = absurd (both_ways false refl e)
same_place_lem (data_place t p) (word_place b) e = absurd (both_ways false refl e)
same_place_lem (data_place t p) (data_place u q) e =
    let parts = and_parts (same_track t u) (eqb p q) e in
    let tracks = and_parts (eqb t.cylinder u.cylinder) (eqb t.head u.head) parts.0 in
    ap₂ data_place
    (ap₂ (λ (c h : ℕ). record { cylinder = c; head = h }) (eqb-true t.cylinder u.cylinder tracks.0) (eqb-true t.head u.head tracks.1))
    (eqb-true p q parts.1)

-- blocks executed after others
after : List Executed → List Executed → List Executed
after E [] = E
after E (e ∷ es) = after (e ∷ E) es

some_after : (f : Executed → Bool) (E es : List Executed) → some_of f (after E es) ≡ true → (some_of f E ≡ true) ⊎ (some_of f es ≡ true)
unfolding after
some_after f E [] t = inl t
some_after f E (e ∷ es) t =
    ⊎_elim
    (λ first. ⊎_elim (λ here. inr (or_left (f e) (some_of f es) here)) (λ before. inl before) (or_cases (f e) (some_of f E) first))
    (λ later. inr (or_right (f e) (some_of f es) later))
    (some_after f (e ∷ E) es t)

some_stays : (f : Executed → Bool) (E es : List Executed) → some_of f E ≡ true → some_of f (after E es) ≡ true
unfolding after
some_stays f E [] t = t
some_stays f E (e ∷ es) t = some_stays f (e ∷ E) es (or_right (f e) (some_of f E) t)

module _ (w₀ : World) (calls : List Call) where
  covered_stays : (E es : List Executed) (pl : Place) → Covered w₀ calls E pl → Covered w₀ calls (after E es) pl
  unfolding Covered
  covered_stays E es pl c = ⊎_elim inl (λ n. inr (some_stays (names w₀.disk pl) E es n)) c

  -- nothing is sent to a place that is not covered at the end
  none_sent : {A : Type 0} (Q : A → World → List Executed → Type 0) (pl : Place) (a : Act A) (E : List Executed) (w : World)
      → Safe (Covered w₀ calls) Q E a w → (Covered w₀ calls (after E (executed a w)) pl → ⊥) → some_to pl (sent a w) ≡ false
  unfolding Safe executed after
  none_sent Q pl (done x) E w safe free = refl
  none_sent Q pl (ask q k) E w safe free = none_sent Q pl (k (answer q w)) E w safe free
  none_sent Q pl (send s a) E w safe free =
      or_from (goes_to pl s) (some_to pl (sent a (put s w)))
      (⊎_elim
      (λ here. absurd (free (subst (Covered w₀ calls (after E (executed a (put s w)))) (sym (same_place_lem pl (place_of s) here)) (covered_stays E (executed a (put s w)) (place_of s) safe.0))))
      (λ there. there) (cases_Bool (goes_to pl s)))
      (none_sent Q pl a E (put s w) safe.1 free)
  none_sent Q pl (execute e a) E w safe free = none_sent Q pl a (e ∷ E) w safe free

-- what no put changes
record Fixed (w end : World) : Type 0 where
  ids : (t : Track) (p : ℕ) → (end.disk.sector t p).id ≡ (w.disk.sector t p).id
  heads : end.disk.heads ≡ w.disk.heads
  size : end.memory.size ≡ w.memory.size
  reads : end.memory.reads ≡ w.memory.reads
  stores : end.memory.stores ≡ w.memory.stores
  device : end.device ≡ w.device

id_kept : (b : Bool) (new : List ℕ) (s : Sector) → (cond b (with_data new s) s).id ≡ s.id
id_kept true new s = refl
id_kept false new s = refl

fixed_puts : (ss : List Sent) (w : World) → Fixed w (puts ss w)
unfolding puts
fixed_puts [] w = record { ids = λ t p. refl; heads = refl; size = refl; reads = refl; stores = refl; device = refl }
fixed_puts (to_word a x ∷ ss) w =
    let f = fixed_puts ss (put (to_word a x) w) in
    record { ids = f.ids; heads = f.heads; size = f.size; reads = f.reads; stores = f.stores; device = f.device }
fixed_puts (to_sector u q ws ∷ ss) w =
    let f = fixed_puts ss (put (to_sector u q ws) w) in
    record {
      ids = λ t p. f.ids t p ∙ id_kept (same_track t u && eqb p q) (padded (bytes_of ws)) (w.disk.sector t p);
      heads = f.heads;
      size = f.size;
      reads = f.reads;
      stores = f.stores;
      device = f.device;
    }

pub untouched : (calls : List Call) (w : World) → Untouched w (ends (run new_card calls) w).world calls (executed (run new_card calls) w)
unfolding after Covered
untouched calls w =
    let rules = run new_card calls in
    let f = subst (Fixed w) (sym (ends-puts rules w)) (fixed_puts (sent rules w) w) in
    let start : Kept w w = record { tracks = λ t. refl; verdicts = refl } in
    record {
      places = λ pl unstored unnamed.
          (last_sent rules w).kept pl
          (not_from_false (some_to pl (sent rules w))
          (none_sent w calls (λ (r : Ran) w' E'. Unit {0}) pl rules [] w (safe_run w calls calls (λ x h. h) [] w start new_card tt)
          (λ c. ⊎_elim
          (λ stored. both_ways (processor_stored w.memory calls pl) unstored stored)
          (λ n. ⊎_elim (λ none. both_ways false refl none) (λ e. both_ways (named w.disk (executed rules w) pl) unnamed e)
          (some_after (names w.disk pl) [] (executed rules w) n))
          c)));
      ids = f.ids;
      heads = f.heads;
      size = f.size;
      reads = f.reads;
      stores = f.stores;
      device = f.device;
    }

-- the whole law, of a run that is what the rules come to
pub run_law : (calls : List Call) (w end : World) (c : Card) (answers : List Answer) → ends (run new_card calls) w ≡ ended record { card = c; answers = answers } end → RunLaw w end calls answers
run_law calls w end c answers came =
    let rules = run new_card calls in
    let is_end = ap (λ (e : Ended Ran). e.world) came in
    record {
      unchanged = subst (λ (x : World). Untouched w x calls (executed rules w)) is_end (untouched calls w);
      alike = λ u agree.
          let both = alike_where rules w u agree in
          record {
            answered = ap (λ (r : Ran). r.answers) (both.same ∙ ap (λ (e : Ended Ran). e.result) came);
            places = λ pl either. both.places pl either ∙ ap (λ (x : World). holds x pl) is_end;
          };
      lasting = subst (λ (x : World). LastSent w x (sent rules w)) is_end (last_sent rules w);
    }

pub audited_law : (calls : List Call) (w end : World) (c : Card) (answers : List Answer) → ends (run new_card calls) w ≡ ended record { card = c; answers = answers } end → AuditedLaw w end calls answers
audited_law calls w end c answers came = record { law = run_law calls w end c answers came; audit = run_audit new_card w calls }

-- two runs of the same calls, by what each came to
pub both_alike : (calls others : List Call) (w end u other : World) (c c' : Card) (answers answers' : List Answer)
    → ends (run new_card calls) w ≡ ended record { card = c; answers = answers } end → ends (run new_card others) u ≡ ended record { card = c'; answers = answers' } other
    → others ≡ calls → Agree (looked_in w calls) w u → BothAlike w end u other calls answers answers'
both_alike calls others w end u other c c' answers answers' came also same agree =
    let alike = (run_law calls w end c answers came).alike u (subst (λ (qs : List Query). Agree qs w u) (sym (run_audit new_card w calls).looks) agree) in
    let again : ends (run new_card calls) u ≡ ended record { card = c'; answers = answers' } other = ap (λ (l : List Call). ends (run new_card l) u) (sym same) ∙ also in
    record {
      answered = sym (ap (λ (e : Ended Ran). e.result.answers) again) ∙ alike.answered;
      places = λ pl either. sym (ap (λ (e : Ended Ran). holds e.world pl) again) ∙ alike.places pl either;
    }
