use Rattle.std.proofs.Common.{◌≡◌, ◌≤◌, List, ℕ, [], length, sym, ap, subst, ◌∙◌, arith}
use Rattle.rsvp_base.specs.Members.{In}
use Rattle.tree_model.proofs.TreeLaws.{true_false}
use Rattle.script_rules.specs.Listed.{IsOfEnds}
use Rattle.tree_model.specs.declared.hops.End.{End}
use Rattle.tree_model.specs.Networks.{Net, link_of}
use Rattle.tree_routing.specs.Answers.{TakesLink, with_link}
use Rattle.script_grammar.specs.Adds.{link_value}
use Rattle.script_rules.specs.Said.{draft_of}
use Rattle.script_rules.specs.Fitness.{ArePlaced}
use Rattle.script_rules.specs.Forcing.{IsOfNet, hops_in_force}
use Rattle.script_rules.specs.LinkEnds.{are_apart, is_known}
use Rattle.std.specs.List.{list_all}
use Rattle.script_rules.proofs.Forced.{ends_kept, nothing_forced}
use Rattle.script_rules.proofs.Members.{all_in_of, in_all_of}
use Rattle.script_rules.proofs.LinkRules.{apart_told, apart_tested, known_told, known_tested, takes}
use Rattle.script_rules.proofs.link.add_link.Goals as goal

pub returns-then-not-are_apart-clause-refused : goal.returns-then-not-are_apart-clause-refused
returns-then-not-are_apart-clause-refused c =
    let d = draft_of c.args.state.now in (
      c.only_declares.ensures.0 c.if-not-only_declares.false,
      λ differ. true_false _ (c.are_apart.ensures ∙ ap (are_apart d) c.as_slice.ensures.names ∙ apart_tested d c.args.names differ) c.if-not-are_apart.true,
    )

pub returns-then-not-are_known-clause-refused : goal.returns-then-not-are_known-clause-refused
returns-then-not-are_known-clause-refused c =
    let d = draft_of c.args.state.now in (
      c.only_declares.ensures.0 c.if-not-only_declares.false,
      apart_told d c.args.names (sym (c.are_apart.ensures ∙ ap (are_apart d) c.as_slice.ensures.names) ∙ c.if-not-are_apart.false),
      λ all. true_false _ (c.are_known.ensures ∙ ap (list_all (is_known d)) c.as_slice-2.ensures.names ∙ known_tested d c.args.names all) c.if-not-are_known.true,
    )

pub returns-then-not-are_in_no_link-clause-refused : goal.returns-then-not-are_in_no_link-clause-refused
returns-then-not-are_in_no_link-clause-refused c =
    let d = draft_of c.args.state.now in
    let es = c.as_slice-4.ensures.value ∙ c.numbers-ends.ensures ∙ ap (link_value d) c.as_slice-3.ensures.names in (
      c.only_declares.ensures.0 c.if-not-only_declares.false,
      apart_told d c.args.names (sym (c.are_apart.ensures ∙ ap (are_apart d) c.as_slice.ensures.names) ∙ c.if-not-are_apart.false),
      known_told d c.args.names (sym (c.are_known.ensures ∙ ap (list_all (is_known d)) c.as_slice-2.ensures.names) ∙ c.if-not-are_known.false),
      λ free. true_false _ (c.are_in_no_link.ensures.1 (λ e i. all_in_of (λ (x : ℕ). link_of d.net.links x ≡ []) (link_value d c.args.names) free e
          (subst (λ (xs : List ℕ). In e xs) es i))) c.if-not-are_in_no_link.true,
    )

pub returns-then-not-has_room_for_link-clause-refused : goal.returns-then-not-has_room_for_link-clause-refused
returns-then-not-has_room_for_link-clause-refused c =
    let d = draft_of c.args.state.now in
    let es = c.as_slice-4.ensures.value ∙ c.numbers-ends.ensures ∙ ap (link_value d) c.as_slice-3.ensures.names in (
      c.only_declares.ensures.0 c.if-not-only_declares.false,
      apart_told d c.args.names (sym (c.are_apart.ensures ∙ ap (are_apart d) c.as_slice.ensures.names) ∙ c.if-not-are_apart.false),
      known_told d c.args.names (sym (c.are_known.ensures ∙ ap (list_all (is_known d)) c.as_slice-2.ensures.names) ∙ c.if-not-are_known.false),
      in_all_of (λ (x : ℕ). link_of d.net.links x ≡ []) (link_value d c.args.names) (λ e i. c.are_in_no_link.ensures.0 c.if-not-are_in_no_link.false e (subst (λ (xs : List ℕ). In e xs) (sym es) i)),
      tt,
      λ room. true_false _ (c.has_room_for_link.ensures.1 room) c.if-not-has_room_for_link.true,
    )

pub add_link_of-requires : goal.add_link_of-requires
add_link_of-requires c =
    let d = draft_of c.args.state.now in
    let es = c.as_slice-4.ensures.value ∙ c.numbers-ends.ensures ∙ ap (link_value d) c.as_slice-3.ensures.names in
    let last = c.as_slice-5.ensures.value ∙ c.numbers-ends.ensures ∙ ap (link_value d) c.as_slice-3.ensures.names in
    let ends = c.args.state.now.ends_there in
    subst (λ (xs : List ℕ). TakesLink d.net xs) (sym last)
    (takes d c.args.names (subst (λ (xs : List (List ℕ)). 2 ≤ length xs) c.as_slice.ensures.names c.as_slice.ensures.some)
    (subst (λ (xs : List (List ℕ)). length xs ≤ 8) c.as_slice.ensures.names c.as_slice.ensures.few)
    (sym (c.are_apart.ensures ∙ ap (are_apart d) c.as_slice.ensures.names) ∙ c.if-not-are_apart.false)
    (sym (c.are_known.ensures ∙ ap (list_all (is_known d)) c.as_slice-2.ensures.names) ∙ c.if-not-are_known.false)
    (omega (arith, ends))
    (λ e i. c.are_in_no_link.ensures.0 c.if-not-are_in_no_link.false e (subst (λ (xs : List ℕ). In e xs) (sym es) i))
    (c.has_room_for_link.ensures.0 c.if-not-has_room_for_link.false))

pub returns-clause-ok : goal.returns-clause-ok
returns-clause-ok c =
    let d = draft_of c.args.state.now in
    let es = c.as_slice-4.ensures.value ∙ c.numbers-ends.ensures ∙ ap (link_value d) c.as_slice-3.ensures.names in
    let last = c.as_slice-5.ensures.value ∙ c.numbers-ends.ensures ∙ ap (link_value d) c.as_slice-3.ensures.names in (
      record {
        in_time = c.only_declares.ensures.0 c.if-not-only_declares.false;
        in_range = apart_told d c.args.names (sym (c.are_apart.ensures ∙ ap (are_apart d) c.as_slice.ensures.names) ∙ c.if-not-are_apart.false);
        known = known_told d c.args.names (sym (c.are_known.ensures ∙ ap (list_all (is_known d)) c.as_slice-2.ensures.names) ∙ c.if-not-are_known.false);
        new = in_all_of (λ (x : ℕ). link_of d.net.links x ≡ []) (link_value d c.args.names)
            (λ e i. c.are_in_no_link.ensures.0 c.if-not-are_in_no_link.false e (subst (λ (xs : List ℕ). In e xs) (sym es) i));
        of_style = tt;
        within_limits = c.has_room_for_link.ensures.0 c.if-not-has_room_for_link.false;
        of_tree = tt;
        within_capacity = tt;
        loop_free = tt;
      },
      ap (λ (n : Net). record d { net = n; force = hops_in_force c.args.state.now.force n.hops }) (c.in_ok-add_link_of.ensures.ok ∙ ap (with_link d.net) last),
    )

pub returns-in_err-add_link_of-clause-asked : goal.returns-in_err-add_link_of-clause-asked
returns-in_err-add_link_of-clause-asked c = λ e.
    let d = draft_of c.args.state.now in
    let es = c.as_slice-4.ensures.value ∙ c.numbers-ends.ensures ∙ ap (link_value d) c.as_slice-3.ensures.names in
    record {
      in_time = c.only_declares.ensures.0 c.if-not-only_declares.false;
      in_range = apart_told d c.args.names (sym (c.are_apart.ensures ∙ ap (are_apart d) c.as_slice.ensures.names) ∙ c.if-not-are_apart.false);
      known = known_told d c.args.names (sym (c.are_known.ensures ∙ ap (list_all (is_known d)) c.as_slice-2.ensures.names) ∙ c.if-not-are_known.false);
      new = in_all_of (λ (x : ℕ). link_of d.net.links x ≡ []) (link_value d c.args.names)
          (λ e i. c.are_in_no_link.ensures.0 c.if-not-are_in_no_link.false e (subst (λ (xs : List ℕ). In e xs) (sym es) i));
      of_style = tt;
      within_limits = c.has_room_for_link.ensures.0 c.if-not-has_room_for_link.false;
      of_tree = tt;
      within_capacity = tt;
      loop_free = tt;
    }

pub invariant_of-state-clause-of_net : goal.invariant_of-state-clause-of_net
invariant_of-state-clause-of_net c = nothing_forced (IsOfNet c.add_link_of.new.self) c.args.state.now.force (c.args.state.now.moved (c.only_declares.ensures.0 c.if-not-only_declares.false).no_event)

pub invariant_of-state-clause-placed : goal.invariant_of-state-clause-placed
invariant_of-state-clause-placed c =
    let old = c.args.state.now in
    subst (λ (ends : List End). ArePlaced (length old.nodes) ends)
    (sym (ends_kept c.add_link_of.result old.topology c.add_link_of.new.self c.as_slice-5.result.now c.add_link_of.ensures.ok c.add_link_of.ensures.err)) old.placed

pub invariant_of-state-clause-left_there : goal.invariant_of-state-clause-left_there
invariant_of-state-clause-left_there c =
    let old = c.args.state.now in
    subst (λ (ends : List End). IsOfEnds ends old.left)
    (sym (ends_kept c.add_link_of.result old.topology c.add_link_of.new.self c.as_slice-5.result.now c.add_link_of.ensures.ok c.add_link_of.ensures.err)) old.left_there

pub invariant_of-state-clause-ends_there : goal.invariant_of-state-clause-ends_there
invariant_of-state-clause-ends_there c =
    let old = c.args.state.now in
    old.ends_there
    ∙ sym (ap (λ (ends : List End). length ends) (ends_kept c.add_link_of.result old.topology c.add_link_of.new.self c.as_slice-5.result.now c.add_link_of.ensures.ok c.add_link_of.ensures.err))
