-- What the defect layer leaves of a drive below, and what a write through it does. Assumes nothing.
use Rattle.std.specs.Prelude.{◌≡◌, ℕ, Bool, true, false, cond, not, ◌&&◌, List, Ok, Err, Decides, Result, ◌==◌, refl}
use Rattle.std.proofs.Common.{ap, ap₂, ◌∙◌, arith, rules}
use Rattle.std.proofs.Math.Path.{fun_ext}
use Rattle.std.proofs.lemmas.Bool.{cond-false}
use Rattle.basics.specs.Marks.{without}
use Rattle.basics.specs.declared.refusal.Refusal.{Refusal}
use Rattle.basics.specs.declared.refusal.Refusal.TheVariants.{NoSuchPlace}
use Rattle.basics.proofs.Held.{has_without}
use Rattle.drive.specs.Disk.{is_good, Lawful, Sector, Disk, same_track, with_data, replaced}
use Rattle.drive.specs.Defects.{same_defect, defect_of, spoils, spoiled_if, with_defects, defect_disk}
use Rattle.drive.specs.declared.defect.Defect.{Defect}
use Rattle.drive.specs.declared.defect.Field.TheVariants.{Id, Data}
use Rattle.drive.specs.declared.geometry.Track.{Track}
use Rattle.drive.specs.declared.sector.Condition.{Condition}
use Rattle.drive.specs.declared.sector.Condition.TheVariants.{Spoiled}

-- two defects are alike exactly if they are one
pub decides_defect : (x y : Defect) → Decides (same_defect x y) (x ≡ y)
decides_defect = search rules

module _ (new : List ℕ) where
  healed : (i d same : Bool) (s : Sector) → with_defects (not false && i) (not same && d) (cond same (with_data new s) s) ≡ cond same (with_data new (with_defects i d s)) (with_defects i d s)
  healed i d true s = search rules
  healed i d false s = search rules

  -- a write below, with the data mark of its place lifted, is a write
  pub write_through : (marks : List Defect) (d : Disk) (t : Track) (p : ℕ) → defect_disk (without same_defect (defect_of Data t p) marks) (replaced d t p new) ≡ replaced (defect_disk marks d) t p new
  write_through marks d t p =
      ap (λ (s : Track → ℕ → Sector). record { heads = d.heads; sector = s }) (fun_ext (λ u. fun_ext (λ q.
      ap₂ (λ (i e : Bool). with_defects i e (cond (same_track u t && q == p) (with_data new (d.sector u q)) (d.sector u q)))
      (has_without same_defect decides_defect (defect_of Id u q) (defect_of Data t p) marks)
      (has_without same_defect decides_defect (defect_of Data u q) (defect_of Data t p) marks)
      ∙ healed (spoils marks Id u q) (spoils marks Data u q) (same_track u t && q == p) (d.sector u q))))

-- the ID that the layer shows is good if it is good below and not marked
pub good_through : (marked : Bool) (c : Condition) → marked ≡ false → is_good c ≡ true → is_good (spoiled_if marked c) ≡ true
good_through marked c clear good = ap is_good (cond-false marked Spoiled c clear) ∙ good

-- what was accepted stands at a good ID
pub good_from : (b : Bool) (x : Unit {0}) → ◌≡◌ {A = Result (Unit {0}) Refusal} (Ok x) (cond b (Ok tt) (Err NoSuchPlace)) → b ≡ true
good_from true x e = refl
good_from false x e = let z : ◌≡◌ {A = ℕ} 0 1 = cc in absurd (omega arith)

-- a lawful drive with marks over it is lawful
pub lawful_defects : (marks : List Defect) (d : Disk) → Lawful d → Lawful (defect_disk marks d)
lawful_defects marks d l = search (rules, l)
