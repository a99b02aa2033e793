-- What an act looks at, executes and sends, carried through its parts. Assumes nothing.
use Rattle.std.proofs.Common.{◌≡◌, ℕ, zero, suc, ◌+◌, ◌%◌, ◌≤◌, Bool, true, false, cond, ◌&&◌, List, [], ◌∷◌, ◌++◌, length, is_ok, Some, None, Ok, Err, sym, refl, ap, ◌∙◌, ap₂, inl, inr, not-suc-le-zero, arith}
use Rattle.std.proofs.lemmas.Bool.{and_parts, both_ways, true≢false}
use Rattle.storage.specs.Memory.{Verdict, allowed}
use Rattle.card.specs.Acts.{World, Query, Reply, word_at, reading, storing, Sent, to_word, Executed, Act, done, ask, send, execute, answer, put, Ended, ends, looked, sent, executed, then}
use Rattle.runs.specs.Moments.{can_read, can_store, words_from, allowed_from, Tried, while_allowed, AllOf}
use Rattle.card.specs.Words.{Moved, Fetched, fetch_words, store_words, residual_of, well, stopped_at}
use Rattle.card.specs.declared.transfer.Stopped.{Stopped}
use Rattle.card.proofs.Spares.{sent-then}
use Rattle.card.proofs.Transfers.{fetch_ok, fetch_err}

-- an act looks only at what is allowed, executes these blocks and sends these things
pub record Does {A : Type 0} (L : Query → Type 0) (E : List Executed) (S : List Sent) (a : Act A) (w : World) : Type 0 where
  pub looks : AllOf L (looked a w)
  pub executes : executed a w ≡ E
  pub sends : sent a w ≡ S

pub looked-then : {A B : Type 0} (a : Act A) (f : A → Act B) (w : World) → looked (then a f) w ≡ looked a w ++ looked (f (ends a w).result) (ends a w).world
unfolding looked
looked-then (done x) f w = refl
looked-then (ask q k) f w = ap (λ (qs : List Query). q ∷ qs) (looked-then (k (answer q w)) f w)
looked-then (send s a) f w = looked-then a f (put s w)
looked-then (execute e a) f w = looked-then a f w

pub executed-then : {A B : Type 0} (a : Act A) (f : A → Act B) (w : World) → executed (then a f) w ≡ executed a w ++ executed (f (ends a w).result) (ends a w).world
unfolding executed
executed-then (done x) f w = refl
executed-then (ask q k) f w = executed-then (k (answer q w)) f w
executed-then (send s a) f w = executed-then a f (put s w)
executed-then (execute e a) f w = ap (λ (es : List Executed). e ∷ es) (executed-then a f w)

all_append : {X : Type 0} (P : X → Type 0) (xs ys : List X) → AllOf P xs → AllOf P ys → AllOf P (xs ++ ys)
unfolding AllOf
all_append P [] ys first second = second
all_append P (x ∷ xs) ys first second = (first.0, all_append P xs ys first.1 second)

module _ (L : Query → Type 0) where
  pub does_done : {A : Type 0} (x : A) (w : World) → Does L [] [] (done x) w
  unfolding looked executed AllOf
  does_done x w = record { looks = tt; executes = refl; sends = refl }

  pub does_as : {A : Type 0} (E E' : List Executed) (S S' : List Sent) (a : Act A) (w : World) → E ≡ E' → S ≡ S' → Does L E S a w → Does L E' S' a w
  does_as E E' S S' a w e s d = record { looks = d.looks; executes = d.executes ∙ e; sends = d.sends ∙ s }

  module _ {A : Type 0} (E : List Executed) (S : List Sent) (w : World) where
    pub does_ask : (q : Query) (k : Reply q → Act A) → L q → Does L E S (k (answer q w)) w → Does {A = A} L E S (ask q k) w
    unfolding looked executed AllOf
    does_ask q k may d = record { looks = (may, d.looks); executes = d.executes; sends = d.sends }

    pub does_send : (s : Sent) (a : Act A) → Does L E S a (put s w) → Does L E (s ∷ S) (send s a) w
    unfolding looked executed
    does_send s a d = record { looks = d.looks; executes = d.executes; sends = ap (λ (ss : List Sent). s ∷ ss) d.sends }

    pub does_execute : (e : Executed) (a : Act A) → Does L E S a w → Does L (e ∷ E) S (execute e a) w
    unfolding looked executed
    does_execute e a d = record { looks = d.looks; executes = ap (λ (es : List Executed). e ∷ es) d.executes; sends = d.sends }

    pub does_cond : (b : Bool) (x y : Act A) → (b ≡ true → Does L E S x w) → (b ≡ false → Does L E S y w) → Does L E S (cond b x y) w
    does_cond true x y yes' no' = yes' refl
    does_cond false x y yes' no' = no' refl

    -- what is executed or sent only where a test passes
    pub pick_executes : (b : Bool) (x y : Act A) → (b ≡ true → Does L E [] x w) → (b ≡ false → Does L [] [] y w) → Does L (cond b E []) [] (cond b x y) w
    pick_executes true x y yes' no' = yes' refl
    pick_executes false x y yes' no' = no' refl

    pub pick_sends : (b : Bool) (x y : Act A) → (b ≡ true → Does L [] S x w) → (b ≡ false → Does L [] [] y w) → Does L [] (cond b S []) (cond b x y) w
    pick_sends true x y yes' no' = yes' refl
    pick_sends false x y yes' no' = no' refl

  pub does_then : {A B : Type 0} (E E' : List Executed) (S S' : List Sent) (a : Act A) (f : A → Act B) (w : World)
      → Does L E S a w → Does L E' S' (f (ends a w).result) (ends a w).world → Does L (E ++ E') (S ++ S') (then a f) w
  does_then E E' S S' a f w first second = record {
    looks = rw (looked-then a f w) (all_append L (looked a w) (looked (f (ends a w).result) (ends a w).world) first.looks second.looks);
    executes = executed-then a f w ∙ ap₂ (λ (x y : List Executed). x ++ y) first.executes second.executes;
    sends = sent-then a f w ∙ ap₂ (λ (x y : List Sent). x ++ y) first.sends second.sends;
  }

  -- words fetched: each is tried while all before it were allowed; nothing is executed or sent
  module _ (w : World) (k : ℕ) where
    pub does_fetch : (n a r : ℕ) → ((x : ℕ) → Tried (can_read w (k % 8)) a n x → L (reading x (k % 8)))
        → ((x : ℕ) → Tried (can_read w (k % 8)) a n x → can_read w (k % 8) x ≡ true → L (word_at x)) → Does L [] [] (fetch_words n a k r) w
    unfolding fetch_words Tried
    does_fetch zero a r reads words = does_done record { words = []; moved = well r } w
    does_fetch (suc n) a r reads words = does_ask [] [] w (reading a (k % 8)) _ (reads a (inl refl))
        (go (λ may. does_fetch n (a + 2) (residual_of a) (λ x t. reads x (inr (may, t))) (λ x t. words x (inr (may, t)))) (w.memory.reads a (k % 8)) refl)
      where
        go : (can_read w (k % 8) a ≡ true → Does L [] [] (fetch_words n (a + 2) k (residual_of a)) w) → (v : Verdict) → w.memory.reads a (k % 8) ≡ v → Does {A = Fetched} L [] [] (elim v [
          | Ok _ ↦ ask (word_at a) (λ x. then (fetch_words n (a + 2) k (residual_of a)) (λ f. done record { words = x ∷ f.words; moved = f.moved }))
          | Err f ↦ done record { words = []; moved = stopped_at r f a }
        ]) w
        go rest (Ok u) is =
            let may : can_read w (k % 8) a ≡ true = ap is_ok is in
            does_ask [] [] w (word_at a) _ (words a (inl refl) may)
            (does_then [] [] [] [] (fetch_words n (a + 2) k (residual_of a)) (λ f. done record { words = w.memory.words a ∷ f.words; moved = f.moved }) w
            (rest may) (does_done _ _))
        go rest (Err f) is = does_done record { words = []; moved = stopped_at r f a } w

  -- words stored: each is tried while all before it were allowed, and sent if it is allowed too
  pub does_store : (k : ℕ) (xs : List ℕ) (n a r : ℕ) (w : World) → length xs ≤ n → ((x : ℕ) → Tried (can_store w (k % 8)) a n x → L (storing x (k % 8)))
      → Does L [] (while_allowed (can_store w (k % 8)) a xs) (store_words xs a k r) w
  unfolding store_words while_allowed Tried
  does_store k [] n a r w long may = does_done (well r) w
  does_store k (x ∷ xs) zero a r w long may = absurd (not-suc-le-zero long)
  does_store k (x ∷ xs) (suc n) a r w long may = does_ask [] _ w (storing a (k % 8)) _ (may a (inl refl))
      (go (λ ok. does_store k xs n (a + 2) (residual_of a) (put (to_word a x) w) (omega arith) (λ y t. may y (inr (ok, t)))) (w.memory.stores a (k % 8)) refl)
    where
      go : (can_store w (k % 8) a ≡ true → Does L [] (while_allowed (can_store w (k % 8)) (a + 2) xs) (store_words xs (a + 2) k (residual_of a)) (put (to_word a x) w)) → (v : Verdict) → w.memory.stores a (k % 8) ≡ v → Does {A = Moved} L [] (cond (can_store w (k % 8) a) (to_word a x ∷ while_allowed (can_store w (k % 8)) (a + 2) xs) []) (elim v [
        | Ok _ ↦ send (to_word a x) (store_words xs (a + 2) k (residual_of a))
        | Err f ↦ done (stopped_at r f a)
      ]) w
      go rest (Ok u) is =
          let ok : can_store w (k % 8) a ≡ true = ap is_ok is in
          does_as [] [] _ _ _ w refl (ap (λ (b : Bool). cond b (to_word a x ∷ while_allowed (can_store w (k % 8)) (a + 2) xs) []) (sym ok))
          (does_send [] _ w (to_word a x) _ (rest ok))
      go rest (Err f) is =
          let no' : can_store w (k % 8) a ≡ false = ap is_ok is in
          does_as [] [] _ _ _ w refl (ap (λ (b : Bool). cond b (to_word a x ∷ while_allowed (can_store w (k % 8)) (a + 2) xs) []) (sym no')) (does_done (stopped_at r f a) w)

-- what a fetch comes to: all its words, or it stopped
pub record FetchIs (w : World) (n a k r : ℕ) : Type 0 where
  pub whole : allowed_from (can_read w (k % 8)) a n ≡ true → ((ends (fetch_words n a k r) w).result.words ≡ words_from w.memory.words a n) × ((ends (fetch_words n a k r) w).result.moved.stopped ≡ None)
  pub part : allowed_from (can_read w (k % 8)) a n ≡ false → (s : Stopped) × ((ends (fetch_words n a k r) w).result.moved.stopped ≡ Some s)
  pub same : (ends (fetch_words n a k r) w).world ≡ w

module _ (w : World) (k n a r : ℕ) (rest : FetchIs w n (a + 2) k (residual_of a)) where
  fetch_more : (v : Verdict) → w.memory.reads a (k % 8) ≡ v → FetchIs w (suc n) a k r
  unfolding allowed_from words_from
  fetch_more (Ok u) is =
      let can : can_read w (k % 8) a ≡ true = ap is_ok is in
      let later : Bool = allowed_from (can_read w (k % 8)) (a + 2) n in
      let came = fetch_ok w n a k r (w.memory.words a) (sym (ap (λ (v : Verdict). allowed v (w.memory.words a)) is)) in
      record {
        whole = λ all.
            let well' = rest.whole (and_parts (can_read w (k % 8) a) later all).1 in
            (ap (λ (e : Ended Fetched). e.result.words) came ∙ ap (λ (l : List ℕ). w.memory.words a ∷ l) well'.0, ap (λ (e : Ended Fetched). e.result.moved.stopped) came ∙ well'.1);
        part = λ none.
            let stops = rest.part (sym (ap (λ (b : Bool). b && later) can) ∙ none) in
            (stops.0, ap (λ (e : Ended Fetched). e.result.moved.stopped) came ∙ stops.1);
        same = ap (λ (e : Ended Fetched). e.world) came ∙ rest.same;
      }
  fetch_more (Err f) is =
      let later : Bool = allowed_from (can_read w (k % 8)) (a + 2) n in
      let came = fetch_err w n a k r f (sym (ap (λ (v : Verdict). allowed v (w.memory.words a)) is)) in
      record {
        whole = λ all. absurd (both_ways (can_read w (k % 8) a) (ap is_ok is) (and_parts (can_read w (k % 8) a) later all).0);
        part = λ none. (record { fault = f; address = a }, ap (λ (e : Ended Fetched). e.result.moved.stopped) came);
        same = ap (λ (e : Ended Fetched). e.world) came;
      }

pub fetch_is : (w : World) (k n a r : ℕ) → FetchIs w n a k r
unfolding fetch_words allowed_from words_from
fetch_is w k zero a r = record { whole = λ _. (refl, refl); part = λ e. absurd (true≢false e); same = refl }
fetch_is w k (suc n) a r = fetch_more w k n a r (fetch_is w k n (a + 2) (residual_of a)) (w.memory.reads a (k % 8)) refl
