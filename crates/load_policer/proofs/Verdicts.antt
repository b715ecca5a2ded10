-- A packet is told one thing.
use Rattle.std.specs.Prelude.{◌≡◌, ◌<◌, ◌≤◌, List}
use Rattle.std.proofs.Common.{arith, refl}
use Rattle.rsvp_base.specs.TokenBucket.{TokenBucket}
use Rattle.load_policer.specs.Policing.{IsVerdict, Packet}
use Rattle.load_policer.specs.declared.policer.Verdict.{Verdict}
use Rattle.load_policer.specs.declared.policer.Verdict.TheVariants.{Pass, Over, Big}

module _ (f : TokenBucket) (passed : List Packet) (x : Packet) where
  fits_or_not : f.most < x.size → x.size ≤ f.most → ⊥
  fits_or_not big fits = omega (arith, big, fits)

  pub one_verdict : (v w : Verdict) → IsVerdict f passed x v → IsVerdict f passed x w → v ≡ w
  one_verdict Pass Pass a b = refl
  one_verdict Pass Over a b = absurd (a.1 b.1)
  one_verdict Pass Big a b = absurd (fits_or_not b a.0)
  one_verdict Over Pass a b = absurd (b.1 a.1)
  one_verdict Over Over a b = refl
  one_verdict Over Big a b = absurd (fits_or_not b a.0)
  one_verdict Big Pass a b = absurd (fits_or_not a b.0)
  one_verdict Big Over a b = absurd (fits_or_not a b.0)
  one_verdict Big Big a b = refl
