-- A node without facts is within bounds.
use Rattle.std.specs.Prelude.{◌≡◌, Some, refl}
use Rattle.std.proofs.Common.{arith}
use Rattle.rsvp_base.specs.declared.style.StyleKind.{StyleKind}
use Rattle.rsvp_base.specs.declared.style.StyleKind.TheVariants.{Wild, Fixed, Shared}
use Rattle.rsvp_base.specs.Table.{get}
use Rattle.style_rules.specs.Limits.{IsWithinLimits}
use Rattle.style_rules.specs.Lines.{LineKey}
use Rattle.router_rules.specs.Bounds.{NoFactsAreWithinBounds}
use Rattle.router_rules.specs.Books.{lines_of}
use Rattle.router_rules.specs.Facts.{ResvState, no_facts, resvs_of}

no_resv : (st : StyleKind) (k : LineKey) (r : ResvState) → get (resvs_of st no_facts) k ≡ Some r → ⊥
no_resv Wild k r e = cc
no_resv Fixed k r e = cc
no_resv Shared k r e = cc

no_lines : (st : StyleKind) → IsWithinLimits st (lines_of st (resvs_of st no_facts))
no_lines Wild = record { lines = omega arith; sessions = omega arith; next_hops = λ s. omega arith; names = λ s. omega arith }
no_lines Fixed = record { lines = omega arith; sessions = omega arith; next_hops = λ s. omega arith; names = λ s. omega arith }
no_lines Shared = record { lines = omega arith; sessions = omega arith; next_hops = λ s. omega arith; names = λ s. omega arith }

pub no_facts_are_within_bounds : NoFactsAreWithinBounds
no_facts_are_within_bounds p c =
    record {
      alive = record { paths = λ k x e. absurd (cc); resvs = λ st k r e. absurd (no_resv st k r e); walls = λ k b e. absurd (cc) };
      due = record { counted = λ s. refl; moment = λ s t e. absurd (cc) };
      shapes =
          record {
            senders = λ k tspec e. absurd (cc);
            paths = λ k x e. absurd (cc);
            resvs = λ st k r e. absurd (no_resv st k r e);
            wants = λ k w e. absurd (cc);
            walls = λ k b e. absurd (cc);
            one_style = λ s u v a b e f. absurd (cc);
          };
      limits =
          record {
            senders = record { all = omega arith; one = λ s. omega arith };
            wants = record { all = omega arith; one = λ s. omega arith };
            paths = record { all = omega arith; one = λ s. omega arith };
            resvs = no_lines;
            walls = omega arith;
          };
      booked = record { capacity = λ i on e. omega arith; mtu = λ i on k part e g. absurd (cc) };
    }
