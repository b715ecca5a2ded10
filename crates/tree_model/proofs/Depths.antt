-- Depth goes up by one along a hop, and with rank stays within the longest chain.
use Rattle.std.specs.Prelude.{◌≡◌, ◌⊎◌, ℕ, ◌+◌, ◌≤◌, Bool, true, false, ◌==◌, List, [], ◌∷◌, ◌++◌, None, Some, refl}
use Rattle.std.proofs.Common.{zero, suc, sym, ap, subst, ◌∙◌, inl, inr, ⊎_elim, arith}
use Rattle.rsvp_base.specs.Members.{In}
use Rattle.rsvp_base.specs.declared.addr.Addr.{Addr}
use Rattle.rsvp_base.proofs.Members.{in_left, in_right}
use Rattle.rsvp_base.proofs.Tables.{either}
use Rattle.tree_model.specs.declared.hops.End.{End}
use Rattle.tree_model.specs.declared.hops.LinkHop.{LinkHop}
use Rattle.tree_model.specs.Networks.{Net, node_of}
use Rattle.tree_model.specs.Trees.{tree, IsGrownFrom, inward, depths, depth}
use Rattle.tree_model.specs.Ranks.{Follows, rank, longest}
use Rattle.tree_model.specs.Valid.{IsValid}
use Rattle.tree_model.specs.Laws.{DepthAndRankWithinLongest}
use Rattle.tree_model.proofs.Following.{same_number, number_same, tree_group}
use Rattle.tree_model.proofs.RankLaws.{rank_within, rank_some, rank_falls_at}
use Rattle.tree_model.proofs.TreeLaws.{Leads, new_at, reached_told, reached_tested, true_false, into}

-- what a hop makes of depths
abbrev step : List End → (ℕ → ℕ) → LinkHop → ℕ → ℕ
step ends d h m = elim (node_of ends h.to == m) as (λ _. ℕ) [ true ↦ suc (d (node_of ends h.from)) | false ↦ d m ]

step_there : (ends : List End) (d : ℕ → ℕ) (h : LinkHop) (m : ℕ) → node_of ends h.to ≡ m → step ends d h m ≡ suc (d (node_of ends h.from))
step_there ends d h m e = ap (λ (b : Bool). elim b as (λ _. ℕ) [ true ↦ suc (d (node_of ends h.from)) | false ↦ d m ]) (number_same _ m e)

step_other : (ends : List End) (d : ℕ → ℕ) (h : LinkHop) (m : ℕ) → (node_of ends h.to ≡ m → ⊥) → step ends d h m ≡ d m
step_other ends d h m ne =
    either (node_of ends h.to == m) (λ t. absurd (ne (same_number _ m t))) (λ f. ap (λ (b : Bool). elim b as (λ _. ℕ) [ true ↦ suc (d (node_of ends h.from)) | false ↦ d m ]) f)

-- a node into which no hop goes keeps its depth
stays : (ends : List End) (d : ℕ → ℕ) (hs : List LinkHop) (n : ℕ) → ((h : LinkHop) → In h hs → node_of ends h.to ≡ n → ⊥) → depths ends d hs n ≡ d n
stays ends d [] n none = refl
stays ends d (h ∷ hs) n none = stays ends (step ends d h) hs n (λ x i. none x (inr i)) ∙ step_other ends d h n (none h (inl refl))

module _ (net : Net) (s : Addr) where
  along_from : (before hs : List LinkHop) → IsGrownFrom net s before hs → (d : ℕ → ℕ) (h : LinkHop) → In h hs
      → depths net.ends d hs (node_of net.ends h.to) ≡ depths net.ends d hs (node_of net.ends h.from) + 1
  along_from before [] grown d h i = absurd i
  along_from before (x ∷ xs) grown d h (inr j) = along_from (before ++ x ∷ []) xs grown.1 (step net.ends d x) h j
  along_from before (x ∷ xs) grown d h (inl e) =
      subst (λ (y : LinkHop). depths net.ends d (x ∷ xs) (node_of net.ends y.to) ≡ depths net.ends d (x ∷ xs) (node_of net.ends y.from) + 1) (sym e) here
    where
      from : Leads net.ends s before (node_of net.ends x.from)
      from = reached_told net.ends s before (node_of net.ends x.from) grown.0.from_reached

      more : (n : ℕ) → Leads net.ends s before n → Leads net.ends s (before ++ x ∷ []) n
      more n (inl r) = inl r
      more n (inr r) = inr (r.0, in_left r.0 before (x ∷ []) r.1, r.2)

      no_more_to : (y : LinkHop) → In y xs → node_of net.ends y.to ≡ node_of net.ends x.to → ⊥
      no_more_to y i t = new_at net s (before ++ x ∷ []) xs grown.1 y i (inr (x, in_right x before (x ∷ []) (inl refl), sym t))

      no_more_from : (y : LinkHop) → In y xs → node_of net.ends y.to ≡ node_of net.ends x.from → ⊥
      no_more_from y i t = new_at net s (before ++ x ∷ []) xs grown.1 y i (subst (λ n. Leads net.ends s (before ++ x ∷ []) n) (sym t) (more (node_of net.ends x.from) from))

      apart : node_of net.ends x.to ≡ node_of net.ends x.from → ⊥
      apart t = true_false _ (reached_tested net.ends s before (node_of net.ends x.to) (subst (λ n. Leads net.ends s before n) (sym t) from)) grown.0.to_new

      here : depths net.ends d (x ∷ xs) (node_of net.ends x.to) ≡ depths net.ends d (x ∷ xs) (node_of net.ends x.from) + 1
      here =
          let up = stays net.ends (step net.ends d x) xs (node_of net.ends x.to) no_more_to ∙ step_there net.ends d x (node_of net.ends x.to) refl in
          let low = stays net.ends (step net.ends d x) xs (node_of net.ends x.from) no_more_from ∙ step_other net.ends d x (node_of net.ends x.from) apart in
          omega arith

module _ (net : Net) (valid : IsValid net) where
  pub along : (g s : Addr) (h : LinkHop) → In h (tree net.hops g s) → depth net g s (node_of net.ends h.to) ≡ depth net g s (node_of net.ends h.from) + 1
  along g s h i = along_from net s [] (tree net.hops g s) (valid.grown g s) (λ m. 0) h i

  nowhere : (g s : Addr) (n : ℕ) → ((h : LinkHop) → In h (tree net.hops g s) → node_of net.ends h.to ≡ n → ⊥) → depth net g s n ≡ 0
  nowhere g s n none = stays net.ends (λ m. 0) (tree net.hops g s) n none

  start : (g s : Addr) (n : ℕ) → inward net n g s ≡ None → depth net g s n ≡ 0
  start g s n e =
      ⊎_elim (λ (r : (h : LinkHop) × In h (tree net.hops g s) × (node_of net.ends h.to ≡ n) × (inward net n g s ≡ Some h.to)). absurd (cc (r.3, e)))
      (λ (r : (inward net n g s ≡ None) × ((h : LinkHop) → In h (tree net.hops g s) → node_of net.ends h.to ≡ n → ⊥)). nowhere g s n r.1) (into net n g s)

  within_by : (k : ℕ) (g s : Addr) (h : LinkHop) → In h (tree net.hops g s) → depth net g s (node_of net.ends h.from) ≡ k → k + rank net g h ≤ longest net
  within_by zero g s h i e = let le = rank_within net g h (tree_group net.hops g s h i) in omega arith
  within_by (suc k) g s h i e = by (within_by k g s) (into net (node_of net.ends h.from) g s)
    where
      by : ((x : LinkHop) → In x (tree net.hops g s) → depth net g s (node_of net.ends x.from) ≡ k → k + rank net g x ≤ longest net)
          → ((x : LinkHop) × In x (tree net.hops g s) × (node_of net.ends x.to ≡ node_of net.ends h.from) × (inward net (node_of net.ends h.from) g s ≡ Some x.to))
          ⊎ ((inward net (node_of net.ends h.from) g s ≡ None) × ((x : LinkHop) → In x (tree net.hops g s) → node_of net.ends x.to ≡ node_of net.ends h.from → ⊥))
          → suc k + rank net g h ≤ longest net
      by rest (inl r) =
          let up : depth net g s (node_of net.ends h.from) ≡ depth net g s (node_of net.ends r.0.from) + 1 = ap (depth net g s) (sym r.2) ∙ along g s r.0 r.1 in
          let le = rest r.0 r.1 (omega arith) in
          let f : Follows net g r.0 h = record { source = s; first = r.1; second = i; meet = sym r.2 } in
          let fall = rank_falls_at net valid.loop_free g r.0 h f in
          omega arith
      by rest (inr r) = let none = nowhere g s (node_of net.ends h.from) r.1 in absurd (omega arith)

  within : (g s : Addr) (h : LinkHop) → In h (tree net.hops g s) → depth net g s (node_of net.ends h.from) + rank net g h ≤ longest net
  within g s h i = within_by (depth net g s (node_of net.ends h.from)) g s h i refl

  every : (g s : Addr) (n : ℕ) → depth net g s n ≤ longest net
  every g s n = by (into net n g s)
    where
      by : ((x : LinkHop) × In x (tree net.hops g s) × (node_of net.ends x.to ≡ n) × (inward net n g s ≡ Some x.to))
          ⊎ ((inward net n g s ≡ None) × ((x : LinkHop) → In x (tree net.hops g s) → node_of net.ends x.to ≡ n → ⊥)) → depth net g s n ≤ longest net
      by (inl r) =
          let up : depth net g s n ≡ depth net g s (node_of net.ends r.0.from) + 1 = ap (depth net g s) (sym r.2) ∙ along g s r.0 r.1 in
          let le = within g s r.0 r.1 in
          let some = rank_some net valid.loop_free g r.0 (tree_group net.hops g s r.0 r.1) in
          omega arith
      by (inr r) = let none = nowhere g s n r.1 in omega arith

pub depth_and_rank_within_longest : (net : Net) → IsValid net → DepthAndRankWithinLongest net
depth_and_rank_within_longest net valid = record { start = start net valid; along = along net valid; within = within net valid; every = every net valid }
