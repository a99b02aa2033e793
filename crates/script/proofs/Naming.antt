-- Words told apart, and what a line's first word makes of the line.
use Rattle.std.proofs.Common.{◌≡◌, ℕ, Bool, false, cond, List, [], ◌∷◌, get_or, Some, Option, sym, ap, ◌∙◌, inl, inr, eq-eqb, ne_eqb}
use Rattle.std.proofs.lemmas.Slice.Eq.{bytes_eq-Decides}
use Rattle.std.proofs.lemmas.Bool.{cases_Bool}
use Rattle.std.specs.Str.{bytes_eq}
use Rattle.script.specs.declared.verb.Verb.{Verb}
use Rattle.script.specs.declared.line.Line.TheVariants.{Blank}
use Rattle.script.specs.Readings.{line_by, line_of}
use Rattle.script.specs.Takes.{after}
use Rattle.script.specs.Verbs.{verb_of}

pub same_false : (xs ys : List ℕ) → (xs ≡ ys → ⊥) → bytes_eq xs ys ≡ false
same_false xs ys h = elim (cases_Bool (bytes_eq xs ys)) [ inl t ↦ absurd (h ((bytes_eq-Decides xs ys).0 t)) | inr f ↦ f ]

pub line_none : (ws : List (List ℕ)) → ws ≡ [] → Some Blank ≡ line_of ws
unfolding line_of
line_none ws e = sym (ap line_of e)

pub line_comment : (ws : List (List ℕ)) (w : List ℕ) (rest : List (List ℕ)) → ws ≡ w ∷ rest → get_or w 0 0 ≡ 35 → Some Blank ≡ line_of ws
unfolding line_of
line_comment ws w rest e h =
    sym (ap line_of e ∙ ap (λ (b : Bool). cond b (Some Blank) (after (verb_of w) (λ v. line_by v rest))) (eq-eqb (get_or w 0 0) 35 h))

pub line_verb : (ws : List (List ℕ)) (w : List ℕ) (rest : List (List ℕ)) (o : Option Verb) → ws ≡ w ∷ rest → (get_or w 0 0 ≡ 35 → ⊥) → o ≡ verb_of w → after o (λ v. line_by v rest) ≡ line_of ws
unfolding line_of
line_verb ws w rest o e h v =
    ap (λ (o : Option Verb). after o (λ v. line_by v rest)) v
    ∙ sym (ap line_of e ∙ ap (λ (b : Bool). cond b (Some Blank) (after (verb_of w) (λ v. line_by v rest))) (ne_eqb (get_or w 0 0) 35 h))
