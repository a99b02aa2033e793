-- What is sent and looked at decides how a rule comes out, whatever the rule is. Assumes nothing.
use Rattle.std.proofs.Common.{◌≡◌, ℕ, Bool, true, false, cond, ◌&&◌, eqb, List, [], ◌∷◌, ◌++◌, map, sym, refl, ap, ◌∙◌, ⊎_elim}
use mathlib.Core.Path.{fun_ext}
use Rattle.std.proofs.lemmas.Bool.{cond-true, cond-false, cases_Bool, not-true, not_from_false, or_parts, or_cases, both_ways, false≢true}
use Rattle.std.specs.List.{range_with_len}
use Rattle.drive.specs.Disk.{Sector, Disk, same_track, with_data, replaced}
use Rattle.drive.specs.Search.{ids}
use Rattle.drive.specs.declared.geometry.Track.{Track}
use Rattle.drive.specs.declared.sector.Condition.{Condition}
use Rattle.drive.specs.declared.sector.Condition.TheVariants.{Good}
use Rattle.drive.specs.declared.sector.IdField.{IdField}
use Rattle.card.specs.Acts.{World, Query, device_address, head_count, word_at, reading, storing, ids_of, condition_of, data_of, Reply, Sent, to_word, to_sector, Act, done, ask, send, execute, answer, bytes_of, padded, put, ends, looked, sent}
use Rattle.runs.specs.Laws.{LastSent, AlikeWhere}
use Rattle.runs.specs.Places.{Place, word_place, data_place, a_word, a_field, content_of, holds, goes_to, some_to, none_to, Agree}

-- one thing after the other is put into a world
unfoldable pub puts : List Sent → World → World
puts [] w = w
puts (s ∷ ss) w = puts ss (put s w)

pub ends-puts : {A : Type 0} (a : Act A) (w : World) → (ends a w).world ≡ puts (sent a w) w
unfolding puts
ends-puts (done x) w = refl
ends-puts (ask q k) w = ends-puts (k (answer q w)) w
ends-puts (send s a) w = ends-puts a (put s w)
ends-puts (execute e a) w = ends-puts a w

pick_word : (b : Bool) (x y : ℕ) → a_word (cond b x y) ≡ cond b (a_word x) (a_word y)
pick_word true x y = refl
pick_word false x y = refl

pick_data : (b : Bool) (new : List ℕ) (s : Sector) → a_field (cond b (with_data new s) s).datum ≡ cond b (a_field record { bytes = new; condition = Good }) (a_field s.datum)
pick_data true new s = refl
pick_data false new s = refl

-- a place holds what was put there, and else what it held
put_holds : (s : Sent) (w : World) (pl : Place) → holds (put s w) pl ≡ cond (goes_to pl s) (content_of s) (holds w pl)
put_holds (to_word a x) w (word_place b) = pick_word (eqb b a) x (w.memory.words b)
put_holds (to_word a x) w (data_place u q) = refl
put_holds (to_sector t p ws) w (word_place b) = refl
put_holds (to_sector t p ws) w (data_place u q) = pick_data (same_track u t && eqb q p) (padded (bytes_of ws)) (w.disk.sector u q)

none_parts : (pl : Place) (s : Sent) (ss : List Sent) → none_to pl (s ∷ ss) ≡ true → (goes_to pl s ≡ false) × (none_to pl ss ≡ true)
none_parts pl s ss none =
    let parts = or_parts (goes_to pl s) (some_to pl ss) (not-true (some_to pl (s ∷ ss)) none) in
    (parts.0, not_from_false (some_to pl ss) parts.1)

pub puts_none : (ss : List Sent) (w : World) (pl : Place) → none_to pl ss ≡ true → holds (puts ss w) pl ≡ holds w pl
unfolding puts
puts_none [] w pl none = refl
puts_none (s ∷ ss) w pl none =
    let parts = none_parts pl s ss none in
    puts_none ss (put s w) pl parts.1 ∙ put_holds s w pl ∙ cond-false (goes_to pl s) (content_of s) (holds w pl) parts.0

pub puts_last : (before after : List Sent) (s : Sent) (w : World) (pl : Place) → goes_to pl s ≡ true → none_to pl after ≡ true → holds (puts (before ++ (s ∷ after)) w) pl ≡ content_of s
unfolding puts
puts_last [] after s w pl here none =
    puts_none after (put s w) pl none ∙ put_holds s w pl ∙ cond-true (goes_to pl s) (content_of s) (holds w pl) here
puts_last (x ∷ before) after s w pl here none = puts_last before after s (put x w) pl here none

-- each place holds what was last sent to it
pub last_sent : {A : Type 0} (a : Act A) (w : World) → LastSent w (ends a w).world (sent a w)
last_sent a w = record {
  last = λ pl before after s all here none.
      ap (λ (u : World). holds u pl) (ends-puts a w ∙ ap (λ (ss : List Sent). puts ss w) all) ∙ puts_last before after s w pl here none;
  kept = λ pl none. ap (λ (u : World). holds u pl) (ends-puts a w) ∙ puts_none (sent a w) w pl none;
}

pub ids_kept : (d : Disk) (t u : Track) (p : ℕ) (new : List ℕ) → ids (replaced d t p new) u ≡ ids d u
unfolding ids
ids_kept d t u p new = ap (λ (f : ℕ → IdField). map f (range_with_len 0 60)) (fun_ext (λ q. pick (same_track u t && eqb q p) (d.sector u q))) where
  pick : (b : Bool) (s : Sector) → (cond b (with_data new s) s).id ≡ s.id
  pick true s = refl
  pick false s = refl

pick_condition : (b : Bool) (new : List ℕ) (s : Sector) → (cond b (with_data new s) s).datum.condition ≡ cond b Good s.datum.condition
pick_condition true new s = refl
pick_condition false new s = refl

pick_bytes : (b : Bool) (new : List ℕ) (s : Sector) → (cond b (with_data new s) s).datum.bytes ≡ cond b new s.datum.bytes
pick_bytes true new s = refl
pick_bytes false new s = refl

-- a query that two worlds reply alike to, they reply alike to after the same was put into both
put-alike : (q : Query) (s : Sent) (w u : World) → answer q w ≡ answer q u → answer q (put s w) ≡ answer q (put s u)
put-alike device_address (to_word a x) w u e = e
put-alike device_address (to_sector t p ws) w u e = e
put-alike head_count (to_word a x) w u e = e
put-alike head_count (to_sector t p ws) w u e = e
put-alike (word_at b) (to_word a x) w u e = ap (λ (y : ℕ). cond (eqb b a) x y) e
put-alike (word_at b) (to_sector t p ws) w u e = e
put-alike (reading b k) (to_word a x) w u e = e
put-alike (reading b k) (to_sector t p ws) w u e = e
put-alike (storing b k) (to_word a x) w u e = e
put-alike (storing b k) (to_sector t p ws) w u e = e
put-alike (ids_of v) (to_word a x) w u e = e
put-alike (ids_of v) (to_sector t p ws) w u e =
    ids_kept w.disk t v p (padded (bytes_of ws)) ∙ e ∙ sym (ids_kept u.disk t v p (padded (bytes_of ws)))
put-alike (condition_of v q) (to_word a x) w u e = e
put-alike (condition_of v q) (to_sector t p ws) w u e =
    let here = same_track v t && eqb q p in
    let new = padded (bytes_of ws) in
    pick_condition here new (w.disk.sector v q) ∙ ap (λ (c : Condition). cond here Good c) e ∙ sym (pick_condition here new (u.disk.sector v q))
put-alike (data_of v q) (to_word a x) w u e = e
put-alike (data_of v q) (to_sector t p ws) w u e =
    let here = same_track v t && eqb q p in
    let new = padded (bytes_of ws) in
    pick_bytes here new (w.disk.sector v q) ∙ ap (λ (b : List ℕ). cond here new b) e ∙ sym (pick_bytes here new (u.disk.sector v q))

agree_put : (qs : List Query) (s : Sent) (w u : World) → Agree qs w u → Agree qs (put s w) (put s u)
agree_put [] s w u agree = tt
agree_put (q ∷ qs) s w u agree = (put-alike q s w u agree.0, agree_put qs s w u agree.1)

-- the same result, and the same sent
same_run : {A : Type 0} (a : Act A) (w u : World) → Agree (looked a w) w u → ((ends a u).result ≡ (ends a w).result) × (sent a u ≡ sent a w)
unfolding looked
same_run (done x) w u agree = (refl, refl)
same_run (ask q k) w u agree =
    let rest = same_run (k (answer q w)) w u agree.1 in
    (ap (λ (r : Reply q). (ends (k r) u).result) (sym agree.0) ∙ rest.0, ap (λ (r : Reply q). sent (k r) u) (sym agree.0) ∙ rest.1)
same_run (send s a) w u agree =
    let rest = same_run a (put s w) (put s u) (agree_put (looked a (put s w)) s w u agree) in
    (rest.0, ap (λ (ss : List Sent). s ∷ ss) rest.1)
same_run (execute e a) w u agree = same_run a w u agree

puts-alike : (ss : List Sent) (w u : World) (pl : Place) → some_to pl ss ≡ true → holds (puts ss u) pl ≡ holds (puts ss w) pl
unfolding puts
puts-alike [] w u pl some = absurd (false≢true some)
puts-alike (s ∷ ss) w u pl some =
    ⊎_elim
    (λ later. puts-alike ss (put s w) (put s u) pl later)
    (λ none.
    let here = ⊎_elim (λ e. e) (λ e. absurd (both_ways (some_to pl ss) none e)) (or_cases (goes_to pl s) (some_to pl ss) some) in
    let clear = not_from_false (some_to pl ss) none in
    puts_none ss (put s u) pl clear ∙ put_holds s u pl ∙ cond-true (goes_to pl s) (content_of s) (holds u pl) here
    ∙ sym (puts_none ss (put s w) pl clear ∙ put_holds s w pl ∙ cond-true (goes_to pl s) (content_of s) (holds w pl) here))
    (cases_Bool (some_to pl ss))

-- two starts that agree on all that is looked at from the first
pub alike_where : {A : Type 0} (a : Act A) (w : World) → AlikeWhere a w
alike_where a w u agree =
    let run = same_run a w u agree in
    record {
      same = run.0;
      places = λ pl either.
          let some = ⊎_elim (λ e. e) (λ e. ap (some_to pl) (sym run.1) ∙ e) either in
          ap (λ (x : World). holds x pl) (ends-puts a u ∙ ap (λ (ss : List Sent). puts ss u) run.1)
          ∙ puts-alike (sent a w) w u pl some ∙ sym (ap (λ (x : World). holds x pl) (ends-puts a w));
    }
