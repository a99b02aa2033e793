-- Sums modulo 2^32, byte by byte and place by place. Assumes nothing.
use Rattle.std.proofs.Common.{◌≡◌, ℕ, zero, suc, ◌+◌, ◌*◌, ◌/◌, ◌%◌, ◌<◌, ◌≤◌, Bool, true, false, cond, List, [], ◌∷◌, ◌++◌, length, get_or, drop, replicate, Ok, Err, Result, sym, refl, ap, ◌∙◌, ap₂, add-zero, mod-eq_of_lt, mul_assoc, add-mul, add-one, arith, drop-cons}
use native.Mathlib.Nat.{mod-mod, mod-add-mod, add-mod-mod, add-mod, div-add-mod, mul-add-mod_self_left}
use Rattle.std.proofs.lemmas.List.{drop_all}
use Rattle.std.specs.Int.{to_be_bytes, w16}
use Rattle.basics.specs.declared.refusal.Refusal.{Refusal}
use Rattle.basics.specs.declared.refusal.Refusal.TheVariants.{NoSuchPlace}
use Rattle.drive.specs.Disk.{Sector, condition_byte, no_bytes}
use Rattle.drive.specs.declared.sector.Condition.{Condition}
use Rattle.drive.specs.declared.sector.IdField.{IdField}
use Rattle.machine.specs.Sums.{weighed, front, summed}

-- 2^32
abbrev pub turn : ℕ
turn = 4294967296

-- a product more, before the rest
pub joins : (s p r : ℕ) → ((s + p % turn) % turn + r) % turn ≡ (s + (p + r)) % turn
joins s p r =
    let one : (s + p % turn) + r ≡ (s + r) + p % turn = omega arith in
    let two : (s + r) + p ≡ s + (p + r) = omega arith in
    mod-add-mod (s + p % turn) turn r ∙ ap (λ (n : ℕ). n % turn) one ∙ add-mod-mod (s + r) p turn ∙ ap (λ (n : ℕ). n % turn) two

-- a factor counts by its rest
pub factor : (w n : ℕ) → w % turn * n % turn ≡ w * n % turn
factor w n =
    let split : w * n ≡ turn * (w / turn * n) + w % turn * n =
    ap (λ (x : ℕ). x * n) (sym (div-add-mod w turn)) ∙ add-mul (turn * (w / turn)) (w % turn) n ∙ ap (λ (x : ℕ). x + w % turn * n) (mul_assoc turn (w / turn) n) in
    sym (ap (λ (x : ℕ). x % turn) split ∙ mul-add-mod_self_left turn (w / turn * n) (w % turn * n))

pub weighed_cons : (i b : ℕ) (bs : List ℕ) → weighed i (b ∷ bs) ≡ b * i + weighed (i + 1) bs
unfolding weighed
weighed_cons i b bs = refl

pub weighed_none : (i : ℕ) → weighed i [] ≡ 0
unfolding weighed
weighed_none i = refl

-- one byte more
pub weighed_more : (i k s f : ℕ) (bs : List ℕ) → k < length bs → (s + weighed (i + k) (drop k bs)) % turn ≡ f
    → ((s + get_or bs k 0 * (i + k) % turn) % turn + weighed (i + (k + 1)) (drop (k + 1) bs)) % turn ≡ f
weighed_more i k s f bs h e =
    let rest : drop k bs ≡ get_or bs k 0 ∷ drop (k + 1) bs =
    drop-cons bs k 0 h ∙ ap (λ (n : ℕ). get_or bs k 0 ∷ drop n bs) (sym (add-one k)) in
    let next : i + k + 1 ≡ i + (k + 1) = omega arith in
    let here : weighed (i + k) (drop k bs) ≡ get_or bs k 0 * (i + k) + weighed (i + (k + 1)) (drop (k + 1) bs) =
    ap (weighed (i + k)) rest ∙ weighed_cons (i + k) (get_or bs k 0) (drop (k + 1) bs)
    ∙ ap (λ (n : ℕ). get_or bs k 0 * (i + k) + weighed n (drop (k + 1) bs)) next in
    joins s (get_or bs k 0 * (i + k)) (weighed (i + (k + 1)) (drop (k + 1) bs)) ∙ ap (λ (n : ℕ). (s + n) % turn) (sym here) ∙ e

-- all bytes
pub weighed_all : (i k s f : ℕ) (bs : List ℕ) → length bs ≤ k → s < turn → (s + weighed i (drop k bs)) % turn ≡ f → s ≡ f
weighed_all i k s f bs h small e =
    let none : weighed i (drop k bs) ≡ 0 = ap (weighed i) (drop_all k bs h) ∙ weighed_none i in
    sym (mod-eq_of_lt small) ∙ ap (λ (n : ℕ). n % turn) (sym (add-zero s)) ∙ ap (λ (n : ℕ). (s + n) % turn) (sym none) ∙ e

pub weighed-append : (i : ℕ) (xs ys : List ℕ) → weighed i (xs ++ ys) ≡ weighed i xs + weighed (i + length xs) ys
unfolding weighed
weighed-append i [] ys =
    let e : i ≡ i + 0 = omega arith in
    let z : weighed (i + 0) ys ≡ 0 + weighed (i + 0) ys = omega arith in
    ap (λ (n : ℕ). weighed n ys) e ∙ z
weighed-append i (x ∷ xs) ys =
    let e : i + 1 + length xs ≡ i + suc (length xs) = omega arith in
    let z : x * i + (weighed (i + 1) xs + weighed (i + suc (length xs)) ys) ≡ (x * i + weighed (i + 1) xs) + weighed (i + suc (length xs)) ys = omega arith in
    ap (λ (n : ℕ). x * i + n) (weighed-append (i + 1) xs ys ∙ ap (λ (n : ℕ). weighed (i + 1) xs + weighed n ys) e) ∙ z

pub weighed_zeros : (i n : ℕ) → weighed i (replicate n 0) ≡ 0
unfolding weighed
weighed_zeros i zero = refl
weighed_zeros i (suc n) =
    let z : 0 * i + weighed (i + 1) (replicate n 0) ≡ 0 = omega (arith, weighed_zeros (i + 1) n) in z

-- what stands in front, and what stands behind it
pub parted : (xs ys : List ℕ) (r : ℕ) → length xs ≡ 8 → r % turn ≡ weighed 9 ys % turn → (weighed 1 xs % turn + r) % turn ≡ weighed 1 (xs ++ ys) % turn
parted xs ys r eight e =
    let at : weighed 1 (xs ++ ys) ≡ weighed 1 xs + weighed 9 ys =
    weighed-append 1 xs ys ∙ ap (λ (n : ℕ). weighed 1 xs + weighed (1 + n) ys) eight in
    mod-add-mod (weighed 1 xs) turn r ∙ add-mod (weighed 1 xs) r turn
    ∙ ap (λ (n : ℕ). (weighed 1 xs % turn + n) % turn) e
    ∙ sym (add-mod (weighed 1 xs) (weighed 9 ys) turn) ∙ ap (λ (n : ℕ). n % turn) (sym at)

module _ (f : ℕ → ℕ) where
  pub summed_none : summed f 0 ≡ 0
  unfolding summed
  summed_none = refl

  -- one more
  pub summed_more : (n s x : ℕ) → s ≡ summed f n % turn → x % turn ≡ f n % turn → (s + x) % turn ≡ summed f (n + 1) % turn
  unfolding summed
  summed_more n s x e p =
      ap (λ (m : ℕ). (m + x) % turn) e ∙ mod-add-mod (summed f n) turn x ∙ add-mod (summed f n) x turn
      ∙ ap (λ (m : ℕ). (summed f n % turn + m) % turn) p ∙ sym (add-mod (summed f n) (f n) turn)
      ∙ ap (λ (m : ℕ). summed f m % turn) (sym (add-one n))

-- what a drive tells of a place, with its data and without
module _ (xs bytes : List ℕ) (good : Bool) (w b : ℕ) (eight : length xs ≡ 8) (first : w ≡ weighed 1 xs % turn) where
  pub place_good : good ≡ true → b ≡ weighed 9 bytes % turn → (w + b) % turn ≡ weighed 1 (xs ++ cond good bytes no_bytes) % turn
  place_good g e =
      ap (λ (n : ℕ). (n + b) % turn) first
      ∙ parted xs bytes b eight (ap (λ (n : ℕ). n % turn) e ∙ mod-mod (weighed 9 bytes) turn)
      ∙ ap (λ (x : Bool). weighed 1 (xs ++ cond x bytes no_bytes) % turn) (sym g)

  pub place_bad : good ≡ false → b ≡ 0 → (w + b) % turn ≡ weighed 1 (xs ++ cond good bytes no_bytes) % turn
  unfolding no_bytes
  place_bad g e =
      ap (λ (n : ℕ). (n + b) % turn) first
      ∙ parted xs no_bytes b eight (ap (λ (n : ℕ). n % turn) (e ∙ sym (weighed_zeros 9 256)))
      ∙ ap (λ (x : Bool). weighed 1 (xs ++ cond x bytes no_bytes) % turn) (sym g)

-- the bytes of a word
pub high_byte : (n : ℕ) (bs : List ℕ) → n < 65536 → bs ≡ to_be_bytes w16 n → get_or bs 0 0 ≡ n / 256
high_byte n bs small e = ap (λ (l : List ℕ). get_or l 0 0) e ∙ mod-eq_of_lt (omega arith)

pub low_byte : (n : ℕ) (bs : List ℕ) → bs ≡ to_be_bytes w16 n → get_or bs 1 0 ≡ n % 256
low_byte n bs e = ap (λ (l : List ℕ). get_or l 1 0) e

abbrev row : IdField → ℕ → ℕ → ℕ → ℕ → List ℕ
row f a b h l = a ∷ b ∷ f.id.flag ∷ h ∷ l ∷ f.id.head ∷ f.id.sector ∷ 0 ∷ []

pub front_from : (s : Sector) (f : IdField) (c : Condition) (a b h l : ℕ) → f ≡ s.id → c ≡ s.datum.condition
    → a ≡ condition_byte f.condition → b ≡ condition_byte c → h ≡ f.id.cylinder / 256 → l ≡ f.id.cylinder % 256
    → (a ∷ b ∷ f.id.flag ∷ h ∷ l ∷ f.id.head ∷ f.id.sector ∷ 0 ∷ []) ≡ front s
front_from s f c a b h l ef ec ea eb eh el =
    ap₂ (λ (x y : ℕ). row f x y h l) ea eb
    ∙ ap₂ (λ (x y : ℕ). row f (condition_byte f.condition) (condition_byte c) x y) eh el
    ∙ ap₂ (λ (x : IdField) (y : Condition). row x (condition_byte x.condition) (condition_byte y) (x.id.cylinder / 256) (x.id.cylinder % 256)) ef ec

-- a place's sum times its number
pub term : (x w n : ℕ) → x ≡ w % turn → x * n % turn % turn ≡ w * n % turn
term x w n e = mod-mod (x * n) turn ∙ ap (λ (m : ℕ). m * n % turn) e ∙ factor w n

-- a refused read tells of a spoiled ID
pub bad_from : (b : Bool) (e : Refusal) → ◌≡◌ {A = Result (Unit {0}) Refusal} (Err e) (cond b (Ok tt) (Err NoSuchPlace)) → b ≡ false
bad_from true e p = let z : ◌≡◌ {A = ℕ} 0 1 = cc in absurd (omega (arith, z))
bad_from false e p = refl
