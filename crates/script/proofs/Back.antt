-- What is printed is read back.
use Rattle.std.proofs.Common.{◌≡◌, ℕ, ◌<◌, ◌≤◌, Bool, true, false, cond, ltb, List, [], ◌∷◌, map, length, Some, codes, refl, ap, ◌∙◌, subst, arith, lit<, lit≤, ltb-true}
use Rattle.std.specs.Option.{option_map}
use Rattle.std.specs.Char.{digit_value}
use Rattle.card.specs.declared.call.Call.{Call}
use Rattle.card.specs.declared.call.Call.TheVariants.{Command, Halt, Store, Readiness, Service, Step}
use Rattle.script.specs.declared.line.Line.TheVariants.{Blank, Call as Calls}
use Rattle.script.specs.declared.verb.CallVerb.{CallVerb}
use Rattle.script.specs.declared.verb.CallVerb.TheVariants.{Command as CommandVerb, Step as StepVerb, Service as ServiceVerb, Ready as ReadyVerb, Unready as UnreadyVerb, Halt as HaltVerb, Store as StoreVerb}
use Rattle.script.specs.Figures.{word, byte, address, hex, hex_address}
use Rattle.script.specs.Laws.{Whole, ReadBack, call_script, ScriptReadBack}
use Rattle.script.specs.Printings.{sayable, call_verb, call_words, call_line}
use Rattle.script.specs.Readings.{command_of, store_of, call_of, line_of}
use Rattle.script.specs.Verbs.{call_text, verbs, verb_of}
use Rattle.script.specs.Words.{words, lines, unreturned}
use Rattle.script.proofs.Clean.{Clean, AllClean, letters, free_letters, free_digits, words_spaced, free_spaced, unreturned_free}
use Rattle.script.proofs.Cutting.{Free, lines_cut}
use Rattle.script.proofs.Digits.{address_short}
use Rattle.script.proofs.Hexes.{hex_digits, hex_says, hex_some}

-- a line that begins with the verb of a call
line_of_lem : (v : CallVerb) (ws : List (List ℕ)) → line_of (call_text v ∷ ws) ≡ option_map Calls (call_of v ws)
unfolding line_of verb_of verbs
line_of_lem CommandVerb ws = refl
line_of_lem StepVerb ws = refl
line_of_lem ServiceVerb ws = refl
line_of_lem ReadyVerb ws = refl
line_of_lem UnreadyVerb ws = refl
line_of_lem HaltVerb ws = refl
line_of_lem StoreVerb ws = refl

command_says : (a b : ℕ) (p : Bool) (x y : List ℕ) → word x ≡ Some a → word y ≡ Some b → command_of (x ∷ y ∷ cond p [] (codes "bad" ∷ [])) ≡ Some (Command a b p)
command_says a b true x y e f = rw (e, f) refl
command_says a b false x y e f = rw (e, f) refl

store_says : (a k w : ℕ) (x y z : List ℕ) → address x ≡ Some a → byte y ≡ Some k → word z ≡ Some w → store_of (x ∷ y ∷ z ∷ []) ≡ Some (Store a k w)
store_says a k w x y z e f g = rw (e, f, g) refl

call_says : (c : Call) → Whole c → sayable c ≡ true → call_of (call_verb c) (call_words c) ≡ Some c
call_says (Command a b p) q h =
    command_says a b p (hex 4 a) (hex 4 b) (hex_says 4 a 0xFFFF (lit< tt) q.0 (omega (arith, q.0))) (hex_says 4 b 0xFFFF (lit< tt) q.1 (omega (arith, q.1)))
call_says Halt q h = refl
call_says (Store a k w) q h =
    let s : a < 0x100000 = ltb-true a 0x100000 h in
    store_says a k w (hex_address a) (hex 2 k) (hex 4 w)
    (subst (λ (x : List ℕ). address x ≡ Some a) (address_short a s) (hex_says 5 a 0xFFFFF (lit< tt) s (omega arith)))
    (hex_says 2 k 0xFF (lit< tt) q.0 (omega (arith, q.0))) (hex_says 4 w 0xFFFF (lit< tt) q.1 (omega (arith, q.1)))
call_says (Readiness true) q h = refl
call_says (Readiness false) q h = refl
call_says Service q h = refl
call_says Step q h = refl

-- a byte that stands in no word of a call
abbrev Outside : ℕ → Type 0
Outside b = (b < 97) × (16 ≤ digit_value b)

verb_letters : (v : CallVerb) → (letters (call_text v) ≡ true) × (0 < length (call_text v))
verb_letters CommandVerb = (refl, lit< tt)
verb_letters StepVerb = (refl, lit< tt)
verb_letters ServiceVerb = (refl, lit< tt)
verb_letters ReadyVerb = (refl, lit< tt)
verb_letters UnreadyVerb = (refl, lit< tt)
verb_letters HaltVerb = (refl, lit< tt)
verb_letters StoreVerb = (refl, lit< tt)

hex_clean : (b : ℕ) → Outside b → (k n : ℕ) → 0 < k → Clean b (hex k n)
hex_clean b o k n some = (free_digits b (hex k n) o.1 (hex_digits k n), hex_some k n some)

address_clean : (b : ℕ) → Outside b → (n : ℕ) → Clean b (hex_address n)
unfolding hex_address
address_clean b o n = elim (ltb n 0x100000) as (λ t. Clean b (cond t (hex 5 n) (hex 8 n))) [ true ↦ hex_clean b o 5 n (lit< tt) | false ↦ hex_clean b o 8 n (lit< tt) ]

words_clean : (b : ℕ) → Outside b → (c : Call) → AllClean b (call_words c)
words_clean b o (Command x y true) = (hex_clean b o 4 x (lit< tt), (hex_clean b o 4 y (lit< tt), tt))
words_clean b o (Command x y false) = (hex_clean b o 4 x (lit< tt), (hex_clean b o 4 y (lit< tt), ((free_letters b (codes "bad") o.0 refl, lit< tt), tt)))
words_clean b o Halt = tt
words_clean b o (Store a k w) = (address_clean b o a, (hex_clean b o 2 k (lit< tt), (hex_clean b o 4 w (lit< tt), tt)))
words_clean b o (Readiness r) = tt
words_clean b o Service = tt
words_clean b o Step = tt

line_clean : (b : ℕ) → Outside b → (c : Call) → AllClean b (call_text (call_verb c) ∷ call_words c)
line_clean b o c = let v = verb_letters (call_verb c) in ((free_letters b (call_text (call_verb c)) o.0 v.0, v.1), words_clean b o c)

line_words : (c : Call) → words (call_line c) ≡ call_text (call_verb c) ∷ call_words c
line_words c = words_spaced (call_text (call_verb c)) (call_words c) (line_clean 32 (lit< tt, lit≤ tt) c)

pub read_back : ReadBack
read_back c q h = ap line_of (line_words c) ∙ line_of_lem (call_verb c) (call_words c) ∙ ap (option_map Calls) (call_says c q h)

line_free : (b : ℕ) → Outside b → (32 ≡ b → ⊥) → (c : Call) → Free b (call_line c)
line_free b o h c = free_spaced b (call_text (call_verb c)) (call_words c) h (line_clean b o c)

none_blank : map (λ l. line_of (words l)) (lines []) ≡ Some Blank ∷ []
unfolding lines unreturned words line_of
none_blank = refl

pub script_read_back : ScriptReadBack
unfolding call_script
script_read_back [] h = none_blank
script_read_back (c ∷ cs) h =
    ap (map (λ l. line_of (words l))) (lines_cut (call_line c) (call_script cs) (line_free 10 (lit< tt, lit≤ tt) (λ e. omega arith) c) ∙ ap (λ l. l ∷ lines (call_script cs)) (unreturned_free (call_line c) (line_free 13 (lit< tt, lit≤ tt) (λ e. omega arith) c)))
    ∙ (λ i. read_back c h.0.0 h.0.1 i ∷ script_read_back cs h.1 i)
