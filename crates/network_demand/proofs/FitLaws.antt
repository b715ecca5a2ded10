-- Demands fit exactly where the wants of each style find room, each session is wanted in one style and each end can carry its own.
use Rattle.std.specs.Prelude.{◌≡◌, ◌↔◌, ℕ, ◌<◌, ◌≤◌, Bool, true, false, cond, List, [], ◌∷◌, map as each, length, Some, refl, slice_get}
use Rattle.std.specs.List.{All}
use Rattle.std.specs.Ordering.{eq_by_cmp}
use Rattle.std.proofs.Common.{zero, suc, sym, ap, subst, ◌∙◌, inl, inr, ⊎_elim, arith}
use Rattle.rsvp_base.specs.Members.{In}
use Rattle.rsvp_base.specs.Orders.{sessions}
use Rattle.rsvp_base.specs.Table.{get}
use Rattle.rsvp_base.specs.declared.session.Session.{Session}
use Rattle.rsvp_base.specs.declared.style.StyleKind.{StyleKind}
use Rattle.rsvp_base.specs.declared.style.StyleKind.TheVariants.{Wild, Fixed, Shared}
use Rattle.rsvp_base.proofs.Members.{in_each}
use Rattle.rsvp_base.proofs.Tables.{tied_same, tied_self}
use Rattle.style_rules.specs.Lines.{BookTable, held}
use Rattle.style_rules.specs.Limits.{IsWithinLimits}
use Rattle.tree_model.specs.Chains.{NoRepeats}
use Rattle.tree_model.specs.declared.hops.End.{End}
use Rattle.tree_model.specs.declared.hops.LinkHop.{LinkHop}
use Rattle.tree_model.specs.Networks.{Net, node_of}
use Rattle.tree_model.specs.Valid.{IsValid}
use Rattle.tree_routing.specs.declared.group_hop.GroupHop.{GroupHop}
use Rattle.tree_routing.specs.Order.{AreByRank}
use Rattle.tree_model.specs.declared.locals.LocalWant.{LocalWant}
use Rattle.tree_model.specs.Wants.{Locals, want}
use Rattle.tree_model.specs.Goals.{goal, DemandsFit}
use Rattle.network_demand.specs.declared.hop_want.HopWant.{HopWant}
use Rattle.network_demand.specs.Demands.{AreLocals, AreDemands}
use Rattle.network_demand.specs.Fits.{FindRoom, AreCarried, first_style, AreOfOneStyle}
use Rattle.network_demand.specs.Steps.{hops_in, hop_wants}
use Rattle.network_demand.proofs.AllowedLaws.{all_in, in_all}
use Rattle.network_demand.proofs.GoalLaws.{from_hops}
use Rattle.network_demand.proofs.Inside.{nodes_inside}
use Rattle.network_demand.proofs.LimitLaws.{limits_found, found_limits}

-- hops go out of nodes of the network
pub wants_inside : (net : Net) (l : Locals) (order : List GroupHop) → IsValid net → AreByRank net order → (st : StyleKind) (s : Session) (w : HopWant) → In w (hop_wants st net l s order)
    → node_of net.ends w.hop.from < net.nodes
wants_inside net l order valid by st s w i =
    let h = in_each (λ (h : LinkHop). record { hop = h; parts = want st net l s h }) w (hops_in s.group order) i in
    let lt = (nodes_inside net valid s.group h.0 (from_hops net l order by s.group h.0 h.1)).0 in
    let at = ap (λ (y : HopWant). node_of net.ends y.hop.from) h.2 in
    omega arith

-- ---- one style
first_is : (s : Session) (st : StyleKind) (ws : List LocalWant) → ((w : LocalWant) → In w ws → w.session ≡ s → w.style ≡ st) → first_style s st ws ≡ st
first_is s st [] all = refl
first_is s st (w ∷ ws) all = at (eq_by_cmp sessions.cmp s w.session) refl (first_is s st ws (λ v i. all v (inr i)))
  where
    at : (b : Bool) → eq_by_cmp sessions.cmp s w.session ≡ b → first_style s st ws ≡ st → cond b w.style (first_style s st ws) ≡ st
    at true e rest = all w (inl refl) (sym (tied_same sessions s w.session e))
    at false e rest = rest

first_either : (s : Session) (a b : StyleKind) (ws : List LocalWant) (v : LocalWant) → In v ws → v.session ≡ s → first_style s a ws ≡ first_style s b ws
first_either s a b [] v i e = absurd i
first_either s a b (w ∷ ws) v i e = at (eq_by_cmp sessions.cmp s w.session) refl (λ (j : In v ws). first_either s a b ws v j e)
  where
    at : (t : Bool) → eq_by_cmp sessions.cmp s w.session ≡ t → (In v ws → first_style s a ws ≡ first_style s b ws) → cond t w.style (first_style s a ws) ≡ cond t w.style (first_style s b ws)
    at true f rest = refl
    at false f rest = ⊎_elim (λ (is : v ≡ w). let z : true ≡ false = sym (tied_self sessions s) ∙ ap (eq_by_cmp sessions.cmp s) (sym e ∙ ap (λ (x : LocalWant). x.session) is) ∙ f in
        absurd (cc)) rest i

one_style_told : (ws : List LocalWant) → All (λ w. first_style w.session w.style ws ≡ w.style) ws → AreOfOneStyle ws
one_style_told ws all v w i j same =
    let a = all_in (λ w. first_style w.session w.style ws ≡ w.style) ws all v i in
    let b = all_in (λ w. first_style w.session w.style ws ≡ w.style) ws all w j in
    sym a ∙ first_either v.session v.style w.style ws v i refl ∙ ap (λ (s : Session). first_style s w.style ws) same ∙ b

one_style_made : (ws : List LocalWant) → AreOfOneStyle ws → All (λ w. first_style w.session w.style ws ≡ w.style) ws
one_style_made ws one = in_all (λ w. first_style w.session w.style ws ≡ w.style) ws (λ w i. first_is w.session w.style ws (λ v j e. one v w j i e))

-- ---- ends
there_inside : (ends : List End) (e : ℕ) (x : End) → slice_get ends e ≡ Some x → e < length ends
there_inside [] e x got = absurd (cc)
there_inside (y ∷ ys) zero x got = omega arith
there_inside (y ∷ ys) (suc e) x got = let lt = there_inside ys e x got in omega arith

pub fits_are : (net : Net) (l : Locals) (order : List GroupHop) (ss : List Session) (books : List BookTable) (fits room wild fixed shared : Bool) → IsValid net → AreByRank net order → AreLocals net l
    → NoRepeats ss → ((x : Session) → In x ss ↔ In x (each (λ (v : LocalWant). v.session) l.wants))
    → AreDemands net l books → (fits ≡ true) ↔ ((room ≡ true) × (All (λ w. first_style w.session w.style l.wants ≡ w.style) l.wants × AreCarried books net.ends)) → (room ≡ true)
    ↔ ((wild ≡ true) × ((fixed ≡ true) × (shared ≡ true)))
    → (wild ≡ true) ↔ FindRoom Wild net l order ss → (fixed ≡ true) ↔ FindRoom Fixed net l order ss → (shared ≡ true) ↔ FindRoom Shared net l order ss → (fits ≡ true) ↔ DemandsFit net l
fits_are net l order ss books fits room wild fixed shared valid by locals once these demands of_fits of_room of_wild of_fixed of_shared = (forth, back)
  where
    forth : fits ≡ true → DemandsFit net l
    forth t =
        let a = of_fits.0 t in
        let r = of_room.0 a.0 in
        record {
          capacity = λ e x got. subst (λ (b : BookTable). held b ≤ x.iface.capacity) (demands.each e (there_inside net.ends e x got)) (a.1.1 e x got).capacity;
          mtu = λ e x k p got there. (a.1.1 e x got).mtu k p (ap (λ (b : BookTable). get b k) (demands.each e (there_inside net.ends e x got)) ∙ there);
          one_style = one_style_told l.wants a.1.0;
          limits = λ n st.
              elim st as (λ (k : StyleKind). IsWithinLimits k (goal net l n)) [
                | Wild ↦ limits_found net l order valid by ss locals once these Wild (of_wild.0 r.0) n
                | Fixed ↦ limits_found net l order valid by ss locals once these Fixed (of_fixed.0 r.1.0) n
                | Shared ↦ limits_found net l order valid by ss locals once these Shared (of_shared.0 r.1.1) n
              ];
        }

    back : DemandsFit net l → fits ≡ true
    back d =
        of_fits.1 (
          of_room.1 (
            of_wild.1 (found_limits net l order valid by ss locals once these Wild (λ n. d.limits n Wild)),
            (
              of_fixed.1 (found_limits net l order valid by ss locals once these Fixed (λ n. d.limits n Fixed)),
              of_shared.1 (found_limits net l order valid by ss locals once these Shared (λ n. d.limits n Shared)),
            ),
          ),
          (
            one_style_made l.wants d.one_style,
            λ e x got. record {
              capacity = subst (λ (b : BookTable). held b ≤ x.iface.capacity) (sym (demands.each e (there_inside net.ends e x got))) (d.capacity e x got);
              mtu = λ k p there. d.mtu e x k p got (ap (λ (b : BookTable). get b k) (sym (demands.each e (there_inside net.ends e x got))) ∙ there);
            },
          ),
        )
