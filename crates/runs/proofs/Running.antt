-- How a run goes on, call by call. Assumes nothing.
use Rattle.std.proofs.Common.{◌≡◌, ℕ, ◌+◌, ◌<◌, ◌≤◌, List, [], ◌∷◌, ◌++◌, length, get_or, take, drop, set, sym, ap, ◌∙◌, ap₂, arith}
use Rattle.std.proofs.lemmas.List.{append_assoc, append-nil, get_or_default, map-append, map-set, set-get_or, drop_more, drop_all, drop-set-lt, take_more_set, take_all}
use Rattle.card.specs.Acts.{World, Ended, done, ends, ended, then}
use Rattle.card.specs.Calls.{Turn, turn}
use Rattle.card.specs.Rules.{call}
use Rattle.runs.specs.Runs.{Ran, run, calls_of, answers_of}
use Rattle.answers.specs.declared.answer.Answer.{Answer}
use Rattle.card.specs.declared.call.Call.{Call}
use Rattle.runs.specs.declared.entry.Entry.{Entry}
use Rattle.card.specs.declared.registers.Card.{Card}
use Rattle.card.proofs.Transfers.{ends-then}

-- answers already given, in front of those to come
abbrev pub answered : List Answer → Ended Ran → Ended Ran
answered given e = ended record { card = e.result.card; answers = given ++ e.result.answers } e.world

pub run_more : (c c' : Card) (x : Call) (a : Answer) (xs : List Call) (w w' : World) → ends (call c x) w ≡ ended (turn c' a) w' → ends (run c (x ∷ xs)) w ≡ answered (a ∷ []) (ends (run c' xs) w')
unfolding run
run_more c c' x a xs w w' came =
    ends-then (call c x) (λ t. then (run t.card xs) (λ r. done record { card = r.card; answers = t.answer ∷ r.answers })) w
    ∙ ap (λ (e : Ended Turn). ends (then (run e.result.card xs) (λ r. done record { card = r.card; answers = e.result.answer ∷ r.answers })) e.world) came
    ∙ ends-then (run c' xs) (λ r. done record { card = r.card; answers = a ∷ r.answers }) w'

-- the first i calls of the entries were carried out: c and w' are what they left
pub record Running (start : Card) (first now : List Entry) (w w' : World) (i : ℕ) (c : Card) : Type 0 where
  pub calls : calls_of now ≡ calls_of first
  pub so_far : ends (run start (calls_of first)) w ≡ answered (answers_of (take i now)) (ends (run c (calls_of (drop i now))) w')

module _ (start : Card) (first now : List Entry) (w : World) where
  pub running_none : first ≡ now → Running start first now w w 0 start
  running_none same = record {
    calls = ap calls_of (sym same);
    so_far = ap (λ (l : List Entry). ends (run start (calls_of l)) w) same;
  }

  module _ (w' w'' : World) (i : ℕ) (c c' : Card) (r : Running start first now w w' i c) (e : Entry) (a : Answer) (within : i < length now) (here : get_or now i e ≡ e) (came : ends (call c e.call) w' ≡ ended (turn c' a) w'') where
    entry' : Entry
    entry' = record { call = e.call; answer = a }

    same_calls : calls_of (set now i entry') ≡ calls_of now
    unfolding entry'
    same_calls =
        map-set (λ (x : Entry). x.call) now i record { call = e.call; answer = a }
        ∙ ap (set (calls_of now) i) (ap (λ (x : Entry). x.call) (sym here)) ∙ sym (map-set (λ (x : Entry). x.call) now i (get_or now i e))
        ∙ ap calls_of (set-get_or now i e)

    pub running_more : Running start first (set now i record { call = e.call; answer = a }) w w'' (i + 1) c'
    unfolding entry'
    running_more =
        let rest = drop (i + 1) now in
        let next : calls_of (drop i now) ≡ e.call ∷ calls_of rest = ap calls_of (drop_more now i e within ∙ ap (λ (x : Entry). x ∷ rest) here) in
        let kept : rest ≡ drop (i + 1) (set now i record { call = e.call; answer = a }) = sym (drop-set-lt (i + 1) now i record { call = e.call; answer = a } (omega arith)) in
        let front : answers_of (take i now) ++ a ∷ [] ≡ answers_of (take (i + 1) (set now i record { call = e.call; answer = a })) =
        sym (ap answers_of (take_more_set now i record { call = e.call; answer = a } within) ∙ map-append (λ (x : Entry). x.answer) (take i now) (record { call = e.call; answer = a } ∷ [])) in
        let tail : Ended Ran = ends (run c' (calls_of rest)) w'' in
        record {
          calls = same_calls ∙ r.calls;
          so_far = r.so_far
              ∙ ap (λ (l : List Call). answered (answers_of (take i now)) (ends (run c l) w')) next
              ∙ ap (answered (answers_of (take i now))) (run_more c c' e.call a (calls_of rest) w' w'' came)
              ∙ ap (λ (l : List Answer). ended record { card = tail.result.card; answers = l } tail.world) (sym (append_assoc (answers_of (take i now)) (a ∷ []) tail.result.answers))
              ∙ ap₂ (λ (given : List Answer) (l : List Entry). answered given (ends (run c' (calls_of l)) w'')) front kept;
        }

  pub running_all : (w' : World) (i : ℕ) (c : Card) → Running start first now w w' i c → length now ≤ i → ends (run start (calls_of first)) w ≡ ended record { card = c; answers = answers_of now } w'
  unfolding run
  running_all w' i c r past =
      r.so_far ∙ ap (λ (l : List Entry). answered (answers_of (take i now)) (ends (run c (calls_of l)) w')) (drop_all i now past)
      ∙ ap (λ (l : List Answer). ended record { card = c; answers = l } w') (append-nil (answers_of (take i now)) ∙ ap answers_of (take_all i now past))

  -- the same, with the entry as it is read at any default
  pub running_read : (w' w'' : World) (i : ℕ) (c c' : Card) (r : Running start first now w w' i c) (z : Entry) (a : Answer) → i < length now
      → ends (call c (get_or now i z).call) w' ≡ ended (turn c' a) w'' → Running start first (set now i record { call = (get_or now i z).call; answer = a }) w w'' (i + 1) c'
  running_read w' w'' i c c' r z a within came =
      running_more w' w'' i c c' r (get_or now i z) a within (sym (get_or_default now i z (get_or now i z) within)) came
