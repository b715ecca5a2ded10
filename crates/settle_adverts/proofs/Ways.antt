-- A way goes hop by hop along its tree.
use Rattle.std.specs.Prelude.{◌≡◌, ℕ, ◌+◌, Bool, true, false, ◌==◌, List, [], ◌∷◌, ◌++◌, length, Some, refl}
use Rattle.std.proofs.Common.{suc, sym, ap, subst, ◌∙◌, inl, inr, ⊎_elim, arith}
use Rattle.std.proofs.lemmas.List.{length-append}
use Rattle.rsvp_base.specs.Members.{In}
use Rattle.rsvp_base.specs.declared.addr.Addr.{Addr}
use Rattle.rsvp_base.proofs.Members.{in_left, in_right}
use Rattle.rsvp_base.proofs.Tables.{either}
use Rattle.tree_model.specs.declared.hops.End.{End}
use Rattle.tree_model.specs.declared.hops.LinkHop.{LinkHop}
use Rattle.tree_model.specs.Networks.{Net, node_of, owner}
use Rattle.tree_model.specs.Trees.{IsGrownFrom, depth, depths, tree}
use Rattle.tree_model.specs.Valid.{IsValid}
use Rattle.tree_model.proofs.Following.{number_same, same_number}
use Rattle.tree_model.proofs.TreeLaws.{Leads, new_at, reached_tested, reached_told, true_false}
use Rattle.settle_adverts.specs.Ways.{AWayGoesHopByHop, way, ways}

-- what a hop makes of ways
abbrev step : List End → (ℕ → List LinkHop) → LinkHop → ℕ → List LinkHop
step ends d h m = elim (node_of ends h.to == m) as (λ _. List LinkHop) [ true ↦ d (node_of ends h.from) ++ h ∷ [] | false ↦ d m ]

step_there : (ends : List End) (d : ℕ → List LinkHop) (h : LinkHop) (m : ℕ) → node_of ends h.to ≡ m → step ends d h m ≡ d (node_of ends h.from) ++ h ∷ []
step_there ends d h m e = ap (λ (b : Bool). elim b as (λ _. List LinkHop) [ true ↦ d (node_of ends h.from) ++ h ∷ [] | false ↦ d m ]) (number_same _ m e)

step_other : (ends : List End) (d : ℕ → List LinkHop) (h : LinkHop) (m : ℕ) → (node_of ends h.to ≡ m → ⊥) → step ends d h m ≡ d m
step_other ends d h m ne =
    either (node_of ends h.to == m) (λ t. absurd (ne (same_number _ m t)))
    (λ f. ap (λ (b : Bool). elim b as (λ _. List LinkHop) [ true ↦ d (node_of ends h.from) ++ h ∷ [] | false ↦ d m ]) f)

-- a node into which no hop goes keeps its way
stays : (ends : List End) (d : ℕ → List LinkHop) (hs : List LinkHop) (n : ℕ) → ((h : LinkHop) → In h hs → node_of ends h.to ≡ n → ⊥) → ways ends d hs n ≡ d n
stays ends d [] n none = refl
stays ends d (h ∷ hs) n none = stays ends (step ends d h) hs n (λ x i. none x (inr i)) ∙ step_other ends d h n (none h (inl refl))

module _ (net : Net) (s : Addr) where
  along_from : (before hs : List LinkHop) → IsGrownFrom net s before hs → (d : ℕ → List LinkHop) (h : LinkHop) → In h hs
      → ways net.ends d hs (node_of net.ends h.to) ≡ ways net.ends d hs (node_of net.ends h.from) ++ h ∷ []
  along_from before [] grown d h i = absurd i
  along_from before (x ∷ xs) grown d h (inr j) = along_from (before ++ x ∷ []) xs grown.1 (step net.ends d x) h j
  along_from before (x ∷ xs) grown d h (inl e) =
      subst (λ (y : LinkHop). ways net.ends d (x ∷ xs) (node_of net.ends y.to) ≡ ways net.ends d (x ∷ xs) (node_of net.ends y.from) ++ y ∷ []) (sym e) here
    where
      from : Leads net.ends s before (node_of net.ends x.from)
      from = reached_told net.ends s before (node_of net.ends x.from) grown.0.from_reached

      more : (n : ℕ) → Leads net.ends s before n → Leads net.ends s (before ++ x ∷ []) n
      more n (inl r) = inl r
      more n (inr r) = inr (r.0, in_left r.0 before (x ∷ []) r.1, r.2)

      no_more_to : (y : LinkHop) → In y xs → node_of net.ends y.to ≡ node_of net.ends x.to → ⊥
      no_more_to y i t = new_at net s (before ++ x ∷ []) xs grown.1 y i (inr (x, in_right x before (x ∷ []) (inl refl), sym t))

      no_more_from : (y : LinkHop) → In y xs → node_of net.ends y.to ≡ node_of net.ends x.from → ⊥
      no_more_from y i t = new_at net s (before ++ x ∷ []) xs grown.1 y i (subst (λ n. Leads net.ends s (before ++ x ∷ []) n) (sym t) (more (node_of net.ends x.from) from))

      apart : node_of net.ends x.to ≡ node_of net.ends x.from → ⊥
      apart t = true_false _ (reached_tested net.ends s before (node_of net.ends x.to) (subst (λ n. Leads net.ends s before n) (sym t) from)) grown.0.to_new

      here : ways net.ends d (x ∷ xs) (node_of net.ends x.to) ≡ ways net.ends d (x ∷ xs) (node_of net.ends x.from) ++ x ∷ []
      here =
          stays net.ends (step net.ends d x) xs (node_of net.ends x.to) no_more_to
          ∙ step_there net.ends d x (node_of net.ends x.to) refl
          ∙ ap (λ (hs : List LinkHop). hs ++ x ∷ []) (sym (stays net.ends (step net.ends d x) xs (node_of net.ends x.from) no_more_from ∙ step_other net.ends d x (node_of net.ends x.from) apart))

-- as long as deep
long_step : (ends : List End) (d : ℕ → List LinkHop) (c : ℕ → ℕ) (h : LinkHop) → ((m : ℕ) → length (d m) ≡ c m) → (m : ℕ) (b : Bool)
    → length (elim b as (λ _. List LinkHop) [ true ↦ d (node_of ends h.from) ++ h ∷ [] | false ↦ d m ]) ≡ elim b as (λ _. ℕ) [ true ↦ suc (c (node_of ends h.from)) | false ↦ c m ]
long_step ends d c h same m true = let l = length-append (d (node_of ends h.from)) (h ∷ []) in let e = same (node_of ends h.from) in omega (arith, l, e)
long_step ends d c h same m false = same m

long_from : (ends : List End) (hs : List LinkHop) (d : ℕ → List LinkHop) (c : ℕ → ℕ) → ((m : ℕ) → length (d m) ≡ c m) → (n : ℕ) → length (ways ends d hs n) ≡ depths ends c hs n
long_from ends [] d c same n = same n
long_from ends (h ∷ hs) d c same n =
    long_from ends hs (step ends d h) (λ m. elim (node_of ends h.to == m) as (λ _. ℕ) [ true ↦ suc (c (node_of ends h.from)) | false ↦ c m ])
    (λ m. long_step ends d c h same m (node_of ends h.to == m)) n

pub a_way_goes_hop_by_hop : (net : Net) → IsValid net → AWayGoesHopByHop net
a_way_goes_hop_by_hop net valid = record {
  root = λ g s n is.
      stays net.ends (λ m. []) (tree net.hops g s) n
      (λ h i t. new_at net s [] (tree net.hops g s) (valid.grown g s) h i (inl (is ∙ ap Some (sym t))));
  along = λ g s h i. along_from net s [] (tree net.hops g s) (valid.grown g s) (λ m. []) h i;
  long = λ g s n. long_from net.ends (tree net.hops g s) (λ m. []) (λ m. 0) (λ m. refl) n;
}
