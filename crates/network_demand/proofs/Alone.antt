-- One want of those that may be asked can be asked alone.
use Rattle.std.specs.Prelude.{◌≡◌, ◌<◌, List, [], ◌∷◌, length, map as each}
use Rattle.std.specs.List.{filter, range_with_len}
use Rattle.std.proofs.Common.{sym, ap, subst, ◌∙◌, ⊎_elim, arith}
use Rattle.rsvp_base.specs.Members.{In}
use Rattle.rsvp_base.specs.Orders.{sessions}
use Rattle.rsvp_base.proofs.Counts.{size-set_of}
use Rattle.network_demand.specs.Books.{book_at}
use Rattle.network_demand.specs.Demands.{AreDemands, AreLocals}
use Rattle.style_rules.specs.Lines.{BookTable}
use Rattle.tree_model.specs.Goals.{demand_of}
use Rattle.tree_model.specs.Networks.{Net}
use Rattle.tree_model.specs.Wants.{Locals}
use Rattle.tree_model.specs.declared.locals.LocalWant.{LocalWant}
use Rattle.network_demand.specs.Askers.{numbers_owing, only_want, owes, reached}
use Rattle.network_demand.proofs.Ranges.{in_range, kept_same}

pub can_ask_alone : (net : Net) (l : Locals) (w : LocalWant) → AreLocals net l → In w l.wants → AreLocals net (only_want l w)
can_ask_alone net l w are i = record {
  nodes = λ v j. ⊎_elim (λ (e : v ≡ w). subst (λ (x : LocalWant). x.node < net.nodes) (sym e) (are.nodes w i)) (λ (n : ⊥). absurd n) j;
  few_sessions = let few = size-set_of sessions (each (λ (x : LocalWant). x.session) (w ∷ [])) in omega (arith, few);
  few_senders = are.few_senders;
}

-- the ends that owe something then are those that it reaches
pub reached_is : (net : Net) (l : Locals) (w : LocalWant) (books : List BookTable) → AreDemands net (only_want l w) books → numbers_owing books ≡ reached net l w
reached_is net l w books are =
    ap (λ n. filter (λ e. owes (book_at books e)) (range_with_len 0 n)) are.all
    ∙ kept_same (λ e. owes (book_at books e)) (λ e. owes (demand_of net (only_want l w) e)) (range_with_len 0 (length net.ends))
    (λ e i. let lt = in_range e 0 (length net.ends) i in ap owes (are.each e (omega (arith, lt))))
