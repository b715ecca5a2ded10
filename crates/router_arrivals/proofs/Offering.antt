-- What the code finds of a path.
use Rattle.std.specs.Prelude.{◌≡◌, ◌==◌, ◌&&◌, ℕ, Bool, true, false, is_some, Option, Some, None, refl}
use Rattle.style_rules.specs.Lines.{NextHop}
use Rattle.router_rules.specs.Paths.{is_path_by}
use Rattle.std.specs.Option.{option_map}
use Rattle.std.proofs.Common.{sym, ap, ◌∙◌}
use Rattle.path_state.specs.Paths.{path_keys}
use Rattle.path_state.specs.declared.fact.PathFact.{PathFact}
use Rattle.rsvp_base.specs.Table.{get, has}
use Rattle.rsvp_base.proofs.Tables.{get-changed, then_do}
use Rattle.router_rules.specs.Facts.{SenderKey}
use Rattle.router_rules.specs.NodeConfig.{is_addr}
use Rattle.router_state.specs.State.{State, facts_of, path_at}

-- ---- whether a path came by a hop
abbrev pub by_fact : NextHop → Option PathFact → Bool
by_fact hop None = false
by_fact hop (Some f) = (f.iface == hop.0) && is_addr f.hop.addr hop.1

pub path_by : (c : ℕ) (n : State) (k : SenderKey) (hop : NextHop) (w : Option PathFact) → w ≡ option_map (λ e. e.0) (get n.paths k) → by_fact hop w ≡ is_path_by hop (get (facts_of c n).paths k)
path_by c n k hop w e = ap (by_fact hop) e ∙ by (get n.paths k) ∙ ap (is_path_by hop) (sym (get-changed path_keys (path_at c) n.paths k))
  where
    by : (v : Option (PathFact × ℕ)) → by_fact hop (option_map (λ (e : PathFact × ℕ). e.0) v) ≡ is_path_by hop (then_do v (path_at c k))
    by None = refl
    by (Some x) = refl

-- then there is one
pub came_there : (c : ℕ) (n : State) (k : SenderKey) (hop : NextHop) → is_path_by hop (get (facts_of c n).paths k) ≡ true → has n.paths k ≡ true
came_there c n k hop h = by (get n.paths k) (sym (ap (is_path_by hop) (get-changed path_keys (path_at c) n.paths k)) ∙ h)
  where
    by : (w : Option (PathFact × ℕ)) → is_path_by hop (then_do w (path_at c k)) ≡ true → is_some w ≡ true
    by None e = cc
    by (Some x) e = refl
