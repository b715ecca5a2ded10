-- How path state at an end comes and goes, by quiet steps of a network.
use Rattle.std.proofs.Common.{◌≡◌, ℕ, ◌+◌, ◌*◌, ◌<◌, ◌≤◌, length, Bool, true, false, cond, Option, None, Some, ◌⊎◌, inl, inr, ⊎_elim, arith, sym, refl, ap, subst, ◌∙◌}
use Rattle.std.specs.Prelude.{slice_get, ◌==◌, option_and_then}
use Rattle.std.proofs.lemmas.Option.{slice_get_within}
use Rattle.rsvp_base.specs.Table.{get}
use Rattle.rsvp_base.specs.TokenBucket.{TokenBucket}
use Rattle.rsvp_messages.specs.declared.message.Message.TheVariants as message
use Rattle.rsvp_messages.specs.declared.message.PathMsg.{PathMsg}
use Rattle.calm_rounds.specs.SoftStates.{KeepLaws}
use Rattle.laws_network.specs.Sources.{IsLearnt}
use Rattle.laws_network.proofs.Learning.{where_a_path_fact_comes_from}
use Rattle.router_rules.specs.Facts.{Facts, SenderKey, PathState}
use Rattle.router_rules.specs.Inputs.{Wait, Came, Spelt}
use Rattle.router_rules.specs.Paths.{path_state}
use Rattle.router_rules.specs.Rule.{Outcome}
use Rattle.tree_model.specs.Networks.{Net, node_of, node_of_end, iface_of}
use Rattle.tree_model.specs.Trees.{inward}
use Rattle.tree_model.proofs.Following.{same_number, number_same}
use Rattle.network_model.specs.Bounds.{AreBounds}
use Rattle.network_model.specs.Steps.{Step, is_quiet, ms_of, arrived, word_for, input_at, outcome, still, step, machine}
use Rattle.network_model.specs.Worlds.{Item, World, config_of}
use Rattle.network_model.proofs.Machines.{quiet_of}
use Rattle.network_model.proofs.Quiet.{IsWaited, IsCame, FollowsRule, input_found, outcome_quiet}
use Rattle.network_model.proofs.Stepping.{facts_after_found}
use Rattle.settle_paths.specs.SoftPaths.{PathValue, value_of, path_at, by_iface, soft_path}
use Rattle.laws_network.proofs.Due.{full_life}
use Rattle.laws_network.proofs.Standing.{comes_in_told, inward_there, same_end}
use Rattle.router_rules.specs.Steps.{node_step}

-- ---- look-up
pub path_found : (u : World) (n : ℕ) (k : SenderKey) (x : PathState) → path_at u n k ≡ Some x → (f : Facts) × (slice_get u.nodes n ≡ Some f) × (get f.paths k ≡ Some x)
path_found u n k x e = by (slice_get u.nodes n) refl e
  where
    by : (o : Option Facts) → slice_get u.nodes n ≡ o → option_and_then (λ (f : Facts). get f.paths k) o ≡ Some x → (f : Facts) × (slice_get u.nodes n ≡ Some f) × (get f.paths k ≡ Some x)
    by None t h = absurd (cc)
    by (Some f) t h = (f, t, h)

pub path_made : (u : World) (n : ℕ) (k : SenderKey) (x : PathState) (f : Facts) → slice_get u.nodes n ≡ Some f → get f.paths k ≡ Some x → path_at u n k ≡ Some x
path_made u n k x f a h = ap (λ (o : Option Facts). option_and_then (λ (g : Facts). get g.paths k) o) a ∙ h

pub iface_found : (i : ℕ) (o : Option PathState) (v : PathValue) (d : ℕ) → by_iface i o ≡ Some (v, d) → (x : PathState) × (o ≡ Some x) × (x.iface ≡ i) × (v ≡ value_of x) × (d ≡ x.dies)
iface_found i None v d e = absurd (cc)
iface_found i (Some x) v d e = by (x.iface == i) refl e
  where
    by : (b : Bool) → (x.iface == i) ≡ b → ◌≡◌ {A = Option (PathValue × ℕ)} (cond b (Some (value_of x, x.dies)) None) (Some (v, d))
        → (y : PathState) × (Some x ≡ Some y) × (y.iface ≡ i) × (v ≡ value_of y) × (d ≡ y.dies)
    by true t h =
        let same : ◌≡◌ {A = PathValue × ℕ} (value_of x, x.dies) (v, d) = cc in
        (x, refl, same_number x.iface i t, sym (ap (λ (z : PathValue × ℕ). z.0) same), sym (ap (λ (z : PathValue × ℕ). z.1) same))
    by false t h = absurd (cc)

pub iface_made : (i : ℕ) (o : Option PathState) (x : PathState) → o ≡ Some x → x.iface ≡ i → by_iface i o ≡ Some (value_of x, x.dies)
iface_made i o x e at = ap (by_iface i) e ∙ ap (λ (b : Bool). cond {A = Option (PathValue × ℕ)} b (Some (value_of x, x.dies)) None) (number_same x.iface i at)

-- ---- where path state comes from
-- an item that arrives brings it
pub record IsBrought (q : ℕ) (net : Net) (s : Step) (u : World) (n : ℕ) (k : SenderKey) (x : PathState) : Type 0 where
  pub item : Item
  pub arrives : arrived s u ≡ Some item
  pub there : item.end < length net.ends
  pub node : node_of net.ends item.end ≡ n
  pub path : PathMsg
  pub tspec : TokenBucket
  pub spelt : item.arrival ≡ Spelt (message.Path path)
  pub dst : item.dst ≡ k.0.group
  pub session : path.session ≡ k.0
  pub sender : path.sender ≡ Some (k.1, tspec)
  pub inward : inward net n k.0.group k.1.addr ≡ Some item.end
  pub is : x ≡ path_state (config_of q net u.trees n) (u.clock + ms_of s) (iface_of net.ends item.end) path tspec

module _ (q : ℕ) (s : Step) (u : World) (quiet : is_quiet s ≡ true) (bounds : AreBounds q u) where
  brought : (n : ℕ) (f : Facts) (k : SenderKey) (x : PathState) (h : FollowsRule q s u n f (outcome q s u n f)) → IsLearnt (config_of q u.net u.trees n) (u.clock + ms_of s) h.input k x
      → IsBrought q u.net s u n k x
  brought n f k x h l =
      ⊎_elim
      (λ (t : IsWaited s u n h.input). let no : Wait t.ms (word_for u.words n) ≡ Came l.by.at k.0.group (Spelt (message.Path l.by.path)) = sym t.is ∙ l.by.came in absurd (cc))
      (λ (t : IsCame s u n h.input).
      let same : Came (iface_of u.net.ends t.item.end) t.item.dst t.item.arrival ≡ Came l.by.at k.0.group (Spelt (message.Path l.by.path)) = sym t.is ∙ l.by.came in
      let iface : iface_of u.net.ends t.item.end ≡ l.by.at = cc in
      let spelt : t.item.arrival ≡ Spelt (message.Path l.by.path) = cc in
      let dst : t.item.dst ≡ k.0.group = cc in
      let lt : t.item.end < length u.net.ends = slice_get_within u.net.ends t.item.end t.end t.there in
      let node : node_of u.net.ends t.item.end ≡ n = ap node_of_end t.there ∙ t.node in
      let way = comes_in_told q u.net u.trees n k.0 l.by.at k.1 l.by.tree in
      let inside = inward_there u.net bounds.net n way.0 k.0.group k.1.addr way.1 in
      let end : way.0 ≡ t.item.end = same_end u.net way.0 t.item.end inside.0 lt (inside.1 ∙ sym node) (way.2 ∙ sym iface) in
      record {
        item = t.item;
        arrives = t.arrives;
        there = lt;
        node = node;
        path = l.by.path;
        tspec = l.by.tspec;
        spelt = spelt;
        dst = dst;
        session = l.by.session;
        sender = l.by.sender;
        inward = way.1 ∙ ap Some end;
        is = l.is ∙ ap (λ (i : ℕ). path_state (config_of q u.net u.trees n) (u.clock + ms_of s) i l.by.path l.by.tspec) (sym iface);
      })
      (input_found s u n h.input quiet h.came)

  pub path_source : (n : ℕ) (k : SenderKey) (x : PathState) → path_at (step q s u) n k ≡ Some x → (path_at u n k ≡ Some x) ⊎ IsBrought q u.net s u n k x
  path_source n k x e =
      let g = path_found (step q s u) n k x e in
      let f = facts_after_found q s u n g.0 g.1 in
      let now : get (outcome q s u n f.0).facts.paths k ≡ Some x = ap (λ (z : Facts). get z.paths k) (sym f.2) ∙ g.2 in
      ⊎_elim
      (λ (h : (input_at s u n ≡ None) × (outcome q s u n f.0 ≡ still f.0)). inl (path_made u n k x f.0 f.1 (sym (ap (λ (o : Outcome). get o.facts.paths k) h.1) ∙ now)))
      (λ (h : FollowsRule q s u n f.0 (outcome q s u n f.0)).
      ⊎_elim
      (λ (old : get f.0.paths k ≡ Some x). inl (path_made u n k x f.0 f.1 old))
      (λ (new : IsLearnt (config_of q u.net u.trees n) (u.clock + ms_of s) h.input k x). inr (brought n f.0 k x h new))
      (where_a_path_fact_comes_from (node_step (config_of q u.net u.trees n) (config_of q u.net u.trees n) u.clock (u.clock + ms_of s) h.input f.0) (bounds.facts n f.0 f.1) k x
      (sym (ap (λ (o : Outcome). get o.facts.paths k) h.is) ∙ now)))
      (outcome_quiet q s u n f.0 quiet)

-- ---- how long it lives
pub path_room : (q : ℕ) (u : World) (n : ℕ) (k : SenderKey) (x : PathState) → AreBounds q u → path_at u n k ≡ Some x → (u.clock < x.dies) × (x.dies ≤ u.clock + 21 * q)
path_room q u n k x bounds e =
    let f = path_found u n k x e in
    let lives = (bounds.facts n f.0 f.1).alive.paths k x f.2 in
    (lives.later, subst (λ (z : ℕ). x.dies ≤ u.clock + z) (full_life q bounds.period) lives.soon)

-- ---- the soft state
pub path_keeps : (q : ℕ) (w : World) (k : SenderKey) (e : ℕ) → e < length w.net.ends → KeepLaws (machine q) (soft_path q w k e)
path_keeps q w k e lt = record {
  set = λ s u v d quiet a a' h.
      let n : ℕ = node_of w.net.ends e in
      let x = iface_found (iface_of w.net.ends e) (path_at (step q s u) n k) v d h in
      ⊎_elim
      (λ (old : path_at u n k ≡ Some x.0).
      inl (v, iface_made (iface_of w.net.ends e) (path_at u n k) x.0 old x.2 ∙ (λ i. Some (sym x.3 i, sym x.4 i)), refl))
      (λ (new : IsBrought q u.net s u n k x.0).
      let b : IsBrought q w.net s u n k x.0 = subst (λ (z : Net). IsBrought q z s u n k x.0) a.same.net new in
      let end : b.item.end ≡ e = same_end w.net b.item.end e b.there lt b.node (sym (ap (λ (z : PathState). z.iface) b.is) ∙ x.2) in
      let says : v ≡ (b.path.hop.addr, b.tspec) = x.3 ∙ ap value_of b.is in
      inr (
        b.item,
        v,
        b.arrives,
        record {
          end = end;
          path = b.path;
          spelt = b.spelt;
          session = b.session;
          sender = b.sender ∙ ap (λ (z : PathValue). Some (k.1, z.1)) (sym says);
          hop = ap (λ (z : PathValue). z.0) says;
          inward = b.inward ∙ ap Some end;
        },
        refl,
      ))
      (path_source q s u (quiet_of q s quiet) a.bounds n k x.0 x.1);
  room = λ u v d a h.
      let x = iface_found (iface_of w.net.ends e) (path_at u (node_of w.net.ends e) k) v d h in
      let r = path_room q u (node_of w.net.ends e) k x.0 a.bounds x.1 in
      (omega (arith, r.0, x.4), omega (arith, r.1, x.4));
}
