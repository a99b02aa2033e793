-- A drive whose tracks were all made fresh. Assumes nothing.
use Rattle.std.proofs.Common.{◌≡◌, ℕ, zero, suc, ◌+◌, ◌*◌, ◌/◌, ◌%◌, ◌<◌, ◌≤◌, Bool, true, false, cond, ◌&&◌, eqb, ltb, ◌≢◌, sym, refl, ap, ◌∙◌, subst, ap₂, not-suc-le-zero, mod-lt, div-lt_iff_lt-mul, add-one, arith, lit<}
use lib.Arith.{digits_lt, digits_div, digits_mod}
use Rattle.std.proofs.lemmas.Bool.{cond-true, cond-false, and_parts, and_from, eqb-true, eq-eqb, lt-ltb, false≢true}
use Rattle.drive.specs.Disk.{Disk, on_drive, same_track}
use Rattle.drive.specs.declared.geometry.Track.{Track}
use Rattle.pack.specs.Fresh.{fresh_sector, refreshed}
use Rattle.pack.proofs.Numbers.{on_parts, on_from}
use Rattle.machine.specs.Freshness.{fresh_up_to, AllFresh}
use Rattle.machine.specs.Tracks.{track_at}

pub fresh_none : (d : Disk) → fresh_up_to d 0 ≡ d
unfolding fresh_up_to
fresh_none d = refl

pub fresh_more : (d : Disk) (n : ℕ) → fresh_up_to d (n + 1) ≡ refreshed (fresh_up_to d n) (track_at d.heads n)
unfolding fresh_up_to
fresh_more d n = ap (fresh_up_to d) (add-one n)

pub fresh_heads : (d : Disk) (n : ℕ) → (fresh_up_to d n).heads ≡ d.heads
unfolding fresh_up_to
fresh_heads d zero = refl
fresh_heads d (suc n) = fresh_heads d n

same_parts : (t u : Track) → same_track t u ≡ true → (t.cylinder ≡ u.cylinder) × (t.head ≡ u.head)
same_parts t u e =
    let parts = and_parts (eqb t.cylinder u.cylinder) (eqb t.head u.head) e in
    (eqb-true t.cylinder u.cylinder parts.0, eqb-true t.head u.head parts.1)

same_fresh : (t u : Track) (p : ℕ) → same_track t u ≡ true → fresh_sector u p ≡ fresh_sector t p
same_fresh t u p e =
    let parts = same_parts t u e in
    ap₂ (λ (c h : ℕ). fresh_sector (record { cylinder = c; head = h }) p) (sym parts.0) (sym parts.1)

-- the track with the number of a track is that track
numbered : (h n : ℕ) (t : Track) → t.head < h → t.cylinder * h + t.head ≡ n → same_track t (track_at h n) ≡ true
numbered h n t k e =
    let cylinder : t.cylinder ≡ n / h = sym (digits_div t.cylinder k) ∙ ap (λ (m : ℕ). m / h) e in
    let head : t.head ≡ n % h = sym (digits_mod t.cylinder k) ∙ ap (λ (m : ℕ). m % h) e in
    and_from (eqb t.cylinder (n / h)) (eqb t.head (n % h)) (eq-eqb t.cylinder (n / h) cylinder) (eq-eqb t.head (n % h) head)

module _ (d : Disk) (t : Track) (p : ℕ) (k : t.head < d.heads) (q : p < 60) where
  step : (n : ℕ) → t.cylinder * d.heads + t.head < suc n
      → (t.cylinder * d.heads + t.head < n → (fresh_up_to d n).sector t p ≡ fresh_sector t p)
      → (b : Bool) → same_track t (track_at d.heads n) ≡ b
      → cond (same_track t (track_at d.heads n) && ltb p 60) (fresh_sector (track_at d.heads n) p) ((fresh_up_to d n).sector t p) ≡ fresh_sector t p
  step n h below true e = cond-true _ _ _ (and_from (same_track t (track_at d.heads n)) (ltb p 60) e (lt-ltb p 60 q)) ∙ same_fresh t (track_at d.heads n) p e
  step n h below false e =
      let other : t.cylinder * d.heads + t.head ≢ n = λ s. false≢true (sym e ∙ numbered d.heads n t k s) in
      let lower : t.cylinder * d.heads + t.head < n = omega arith in
      cond-false _ _ _ (ap (λ (b : Bool). b && ltb p 60) e) ∙ below lower

  pub fresh_below : (n : ℕ) → t.cylinder * d.heads + t.head < n → (fresh_up_to d n).sector t p ≡ fresh_sector t p
  unfolding fresh_up_to
  fresh_below zero h = absurd (not-suc-le-zero h)
  fresh_below (suc n) h = step n h (fresh_below n) (same_track t (track_at d.heads n)) refl

pub all_fresh : (d : Disk) → AllFresh (fresh_up_to d (303 * d.heads))
all_fresh d t p on =
    let heads = fresh_heads d (303 * d.heads) in
    let o = on_parts d.heads t p (subst (λ (h : ℕ). on_drive h t p ≡ true) heads on) in
    fresh_below d t p o.head o.place (303 * d.heads) (digits_lt o.cylinder o.head)

-- a numbered track is on the drive
on_track : (h n : ℕ) → 1 ≤ h → n < 303 * h → on_drive h (track_at h n) 0 ≡ true
on_track h n k lt = on_from h (track_at h n) 0 ((div-lt_iff_lt-mul k).1 lt) (mod-lt n k) (lit< tt)

-- one track more
pub fresh_step : (d e f : Disk) (h n : ℕ) (t : Track) → h ≡ d.heads → 1 ≤ h → n < 303 * h → t ≡ track_at h n
    → e ≡ fresh_up_to d n → f ≡ cond (on_drive e.heads t 0) (refreshed e t) e → f ≡ fresh_up_to d (n + 1)
fresh_step d e f h n t eh k lt et ee ef =
    let heads : e.heads ≡ h = ap (λ (x : Disk). x.heads) ee ∙ fresh_heads d n ∙ sym eh in
    let on : on_drive e.heads t 0 ≡ true = ap₂ (λ (x : ℕ) (u : Track). on_drive x u 0) heads et ∙ on_track h n k lt in
    ef ∙ cond-true _ _ _ on ∙ ap₂ refreshed ee (et ∙ ap (λ (x : ℕ). track_at x n) eh) ∙ sym (fresh_more d n)
