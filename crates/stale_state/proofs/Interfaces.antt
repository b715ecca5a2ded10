-- The interfaces of a node, gathered from all ends.
use Rattle.std.specs.Prelude.{◌≡◌, ℕ, ◌+◌, ◌<◌, ◌==◌, Bool, true, false, cond, List, [], ◌∷◌, ◌++◌, map as each, length, slice_get, Some, refl}
use Rattle.std.specs.List.{filter}
use Rattle.std.proofs.Common.{suc, sym, ap, ◌∙◌, arith, length-append}
use Rattle.std.proofs.lemmas.Option.{slice_get_within}
use Rattle.rsvp_base.specs.declared.iface.Iface.{Iface}
use Rattle.tree_model.specs.declared.hops.End.{End}
use Rattle.tree_model.specs.Networks.{Net, ends_from, ends_of, iface_of, node_of}
use Rattle.tree_model.proofs.Ifaces.{interfaces_are_ends}
use Rattle.network_model.specs.Worlds.{ifaces_at, with_iface}
use Rattle.stale_state.specs.AtNodes.{ifaces_at_node}

abbrev pub own : ℕ → List End → List End
own n es = filter (λ e. e.node == n) es

abbrev pub ifaces_in : List End → List Iface
ifaces_in es = each (λ e. e.iface) es

behind : (xs : List End) (e : End) (es : List End) → slice_get (xs ++ e ∷ es) (length xs) ≡ Some e
behind [] e es = refl
behind (x ∷ xs) e es = behind xs e es

one_more : (xs : List End) (e : End) (es : List End) → (xs ++ e ∷ []) ++ es ≡ xs ++ e ∷ es
one_more [] e es = refl
one_more (x ∷ xs) e es = ap (λ zs. x ∷ zs) (one_more xs e es)

module _ (n : ℕ) where
  gathered_from : (before after : List End) (k : ℕ) → k ≡ length before → ifaces_at (before ++ after) (ends_from k after n) ≡ ifaces_in (own n after)
  gathered_from before [] k at = refl
  gathered_from before (e ∷ es) k at = by (e.node == n) (ap (λ zs. ifaces_at zs (ends_from (k + 1) es n)) (sym (one_more before e es))
      ∙ gathered_from (before ++ e ∷ []) es (k + 1) (let l = length-append before (e ∷ []) in omega (arith, at, l)))
    where
      here : slice_get (before ++ e ∷ es) k ≡ Some e
      here = ap (slice_get (before ++ e ∷ es)) at ∙ behind before e es

      by : (b : Bool) → ifaces_at (before ++ e ∷ es) (ends_from (k + 1) es n) ≡ ifaces_in (own n es)
          → ifaces_at (before ++ e ∷ es) (cond b (k ∷ ends_from (k + 1) es n) (ends_from (k + 1) es n)) ≡ ifaces_in (cond b (e ∷ own n es) (own n es))
      by true rest = ap (λ o. with_iface o (ifaces_at (before ++ e ∷ es) (ends_from (k + 1) es n))) here ∙ ap (λ is. e.iface ∷ is) rest
      by false rest = rest

  pub gathered : (ends : List End) → ifaces_in (own n ends) ≡ ifaces_at_node ends n
  gathered ends = sym (gathered_from [] ends 0 refl)

  counted_from : (ends : List End) (k : ℕ) → length (ends_from k ends n) ≡ length (own n ends)
  counted_from [] k = refl
  counted_from (e ∷ es) k = by (e.node == n) (counted_from es (k + 1))
    where
      by : (b : Bool) → length (ends_from (k + 1) es n) ≡ length (own n es) → length (cond b (k ∷ ends_from (k + 1) es n) (ends_from (k + 1) es n)) ≡ length (cond b (e ∷ own n es) (own n es))
      by true rest = ap suc rest
      by false rest = rest

long_each : (es : List End) → length (ifaces_in es) ≡ length es
long_each [] = refl
long_each (e ∷ es) = ap suc (long_each es)

-- an end is an interface of its node
pub iface_there : (net : Net) (e : ℕ) → e < length net.ends → iface_of net.ends e < length (ifaces_at_node net.ends (node_of net.ends e))
iface_there net e lt =
    let n = node_of net.ends e in
    let lt : iface_of net.ends e < length (ends_of net.ends n) = slice_get_within (ends_of net.ends n) (iface_of net.ends e) e ((interfaces_are_ends net).end_of_iface e lt) in
    let as_many : length (ends_of net.ends n) ≡ length (ifaces_at_node net.ends n) = counted_from n net.ends 0 ∙ sym (long_each (own n net.ends)) ∙ ap length (gathered n net.ends) in
    omega (arith, lt, as_many)
