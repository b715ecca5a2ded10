-- A delivery keeps a network that opens.
use Rattle.std.proofs.Common.{ℕ, pred, ◌≤◌, List, [], ◌∷◌, ◌++◌, length, Bool, arith}
use Rattle.std.specs.Prelude.{map as each}
use Rattle.std.specs.List.{remove}
use Rattle.std.proofs.lemmas.List.{length-append}
use Rattle.network_model.specs.Steps.{Deliver, sent, step}
use Rattle.network_model.specs.Worlds.{Item, World}
use Rattle.settle_openings.specs.Opening.{IsOpening, IsOpeningWith}
use Rattle.settle_openings.proofs.Going.{going_next}
use Rattle.settle_openings.proofs.Lasting.{lasting_next, lasts_more}

pub opening_next : (q n : ℕ) (w : World) → IsOpeningWith q n w → IsOpeningWith q (pred n) (step q (Deliver 0) w)
opening_next q n w o = record { on = going_next q w o.on; lasting = lasting_next q w o.on n o.lasting }

pub with_more : (q n m : ℕ) (w : World) → n ≤ m → IsOpeningWith q n w → IsOpeningWith q m w
with_more q n m w le o = record { on = o.on; lasting = lasts_more q n m w le o.lasting }

one_less : {A : Type 0} (ys zs : List A) → pred (length ys) ≤ length (remove ys 0 ++ zs)
one_less [] zs = omega arith
one_less (y ∷ ys) zs = let all = length-append ys zs in omega (arith, all)

pub a_delivery_keeps_an_opening : (q : ℕ) (w : World) → IsOpening q w → IsOpening q (step q (Deliver 0) w)
a_delivery_keeps_an_opening q w o =
    with_more q (pred (length w.flight)) (length (step q (Deliver 0) w).flight) (step q (Deliver 0) w) (one_less w.flight (each (λ (z : Item × Bool). z.0) (sent q (Deliver 0) w)))
    (opening_next q (length w.flight) w o)
