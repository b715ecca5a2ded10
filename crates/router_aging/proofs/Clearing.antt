-- A node that is cleared.
use Rattle.std.specs.Prelude.{◌≡◌, ◌+◌, List, [], ◌∷◌, ◌++◌, map as each, Some, refl}
use Rattle.std.specs.Option.{unwrap_or}
use Rattle.std.proofs.Common.{sym, ap, ◌∙◌}
use Rattle.rsvp_base.specs.Orders.{sessions}
use Rattle.rsvp_base.specs.Sets.{set_of}
use Rattle.rsvp_base.specs.Table.{changed, empty, get, keys, same_rows}
use Rattle.rsvp_base.proofs.Changed.{changed_twice}
use Rattle.path_state.specs.Paths.{path_keys}
use Rattle.style_rules.specs.Lines.{line_keys}
use Rattle.style_rules.specs.Targets.{wall_keys}
use Rattle.router_rules.specs.Calls.{act_clear}
use Rattle.router_rules.specs.Facts.{SenderKey}
use Rattle.router_rules.specs.Forgetting.{counted, remembered}
use Rattle.router_rules.specs.NodeConfig.{period}
use Rattle.rsvp_base.specs.declared.style.StyleKind.TheVariants.{Wild, Fixed, Shared}
use Rattle.path_sends.specs.RouterState.State.{due_at, facts_of, path_at, resv_at, wall_at}
use Rattle.router_aging.specs.Clearing.{ClearIsSettled}
use Rattle.router_aging.specs.Passing.{all_begun, begun}

append_none : {A : Type 0} (xs : List A) → xs ++ [] ≡ xs
append_none [] = refl
append_none (x ∷ xs) = ap (λ ys. x ∷ ys) (append_none xs)

pub clear_is_settled : ClearIsSettled
clear_is_settled n c = λ i. record {
  senders = n.senders;
  advertised = n.advertised;
  wants = n.wants;
  paths = paths i;
  resvs = record { wild = wild i; fixed = fixed i; shared = shared i };
  walls = walls i;
  due = due i;
}
  where
    paths : changed (path_at c) (empty {o = path_keys}) ≡ empty
    paths = same_rows _ _ refl

    wild : changed (resv_at c) (empty {o = line_keys}) ≡ changed (remembered Wild (facts_of c n) (act_clear (facts_of c n))) empty
    wild = same_rows _ _ refl

    fixed : changed (resv_at c) (empty {o = line_keys}) ≡ changed (remembered Fixed (facts_of c n) (act_clear (facts_of c n))) empty
    fixed = same_rows _ _ refl

    shared : changed (resv_at c) (empty {o = line_keys}) ≡ changed (remembered Shared (facts_of c n) (act_clear (facts_of c n))) empty
    shared = same_rows _ _ refl

    walls : changed (wall_at c) (empty {o = wall_keys}) ≡ empty
    walls = same_rows _ _ refl

    due : changed (due_at c) (all_begun (period n.place) n.senders) ≡ changed (λ s u. Some (unwrap_or (get (empty {o = sessions}) s) (c + period n.place))) (counted (act_clear (facts_of c n)))
    due =
        changed_twice sessions (begun (period n.place)) (due_at c) (set_of {o = sessions} (each (λ (k : SenderKey). k.0) (keys n.senders)))
        ∙ ap (λ ss. changed (λ s u. Some (c + period n.place)) (set_of {o = sessions} ss)) (sym (append_none (each (λ (k : SenderKey). k.0) (keys n.senders))))
