-- The length of a frame that opens a router.
use Rattle.std.specs.Prelude.{◌≡◌, ℕ, ◌+◌, ◌*◌, ◌<◌, ◌≤◌, ◌==◌, nat_le, Bool, true, false, ◌&&◌, cond, List, length, Option, None, Some, refl}
use Rattle.std.proofs.Common.{sym, ap, subst, ◌∙◌, arith}
use Rattle.std.proofs.lemmas.Bool.{eqb-true, leb-true}
use Rattle.std.proofs.lemmas.Option.{same_Some}
use Rattle.rsvp_base.proofs.SetLaws.{and_both}
use Rattle.node_stream.specs.Layout.{HasForm, clears_in, comes_in, frame_of, iface_count, is_opening, opens_in, route_count, waits_in}
use Rattle.node_stream.specs.declared.frame.Frame.{Frame}
use Rattle.node_stream.specs.declared.frame.Frame.TheVariants.{Opens, Comes, Waits, Clears}

pub form_said : (contents : List ℕ) → is_opening contents ≡ true → HasForm contents
unfolding is_opening
form_said contents e =
    let n = iface_count contents in
    let a = and_both (nat_le 5 (length contents)) (nat_le (7 + 16 * n) (length contents) && (length contents == 7 + 16 * n + 11 * route_count contents)) e in
    let b = and_both (nat_le (7 + 16 * n) (length contents)) (length contents == 7 + 16 * n + 11 * route_count contents) a.1 in
    record { head = leb-true 5 (length contents) a.0; counts = leb-true (7 + 16 * n) (length contents) b.0; all = eqb-true (length contents) (7 + 16 * n + 11 * route_count contents) b.1 }

-- ---- a frame that opens a router has that form
opens_so : (contents : List ℕ) (b : Bool) → is_opening contents ≡ b → cond b (Some Opens) None ≡ Some Opens → is_opening contents ≡ true
opens_so contents true e s = e
opens_so contents false e s = let z : None ≡ Some Opens = s in absurd (cc)

not_comes : (b : Bool) (x : Frame) → (x ≡ Opens → ⊥) → cond b (Some x) None ≡ Some Opens → ⊥
not_comes true x other e = other (same_Some x Opens e)
not_comes false x other e = let z : None ≡ Some Opens = e in cc

pub opens_form : (kind : ℕ) (contents : List ℕ) → frame_of kind contents ≡ Some Opens → HasForm contents
opens_form kind contents e = form_said contents (by (kind == 1) (kind == 2) (kind == 3) (kind == 4) e)
  where
    by : (a b c d : Bool) → cond a (opens_in contents) (cond b (comes_in contents) (cond c (waits_in contents) (cond d (clears_in contents) None))) ≡ Some Opens → is_opening contents ≡ true
    by true b c d e = opens_so contents (is_opening contents) refl e
    by false true c d e = absurd (not_comes (nat_le 5 (length contents)) _ (λ z. cc) e)
    by false false true d e = absurd (not_comes (length contents == 8) _ (λ z. cc) e)
    by false false false true e = absurd (not_comes (length contents == 0) _ (λ z. cc) e)
    by false false false false e = let z : None ≡ Some Opens = e in absurd (cc)
