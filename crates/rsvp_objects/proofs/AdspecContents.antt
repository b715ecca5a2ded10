-- The values of contents.
use Rattle.std.proofs.Common.{◌≡◌, ℕ, ◌-◌, Bool, List, length, length-drop, take, drop, Option, Some, None, refl, arith}
use Rattle.std.proofs.lemmas.List.{take_all}
use Rattle.rsvp_base.specs.declared.flow.Peak.{Peak}
use Rattle.rsvp_objects.specs.Fields.{word_at}
use Rattle.rsvp_objects.specs.RateFields.{peak_at}
use Rattle.rsvp_objects.specs.Fragment.{is_broken, behind_in}
use Rattle.rsvp_objects.specs.Form.{words_in, values_in}

pub values_some : (body : List ℕ) (p : Peak) (load : Option Bool) (ws : List ℕ) → peak_at 20 body ≡ Some p → behind_in (words_in (drop 40 body)) ≡ Some (load, ws)
    → values_in body ≡ Some (record { broken = is_broken (word_at 4 body); hops = word_at 12 body; rate = p; latency = word_at 28 body; mtu = word_at 36 body; load = load; others = ws })
unfolding values_in
values_some body p load ws e f = rw (e, f) refl

pub values_none : (body : List ℕ) (p : Peak) → peak_at 20 body ≡ Some p → behind_in (words_in (drop 40 body)) ≡ None → values_in body ≡ None
unfolding values_in
values_none body p e f = rw (e, f) refl

-- all that is behind a place
pub rest_is : (n : ℕ) (xs : List ℕ) → take (length xs - n) (drop n xs) ≡ drop n xs
rest_is n xs = take_all (length xs - n) (drop n xs) (let e = length-drop n xs in omega arith)
