-- What a network can be asked, as tests tell it.
use Rattle.std.specs.Prelude.{◌≡◌, ◌↔◌, ℕ, ◌<◌, ◌≤◌, Bool, true, false, List, [], ◌∷◌, map as each, length, refl, slice_index_or}
use Rattle.std.specs.List.{All, filter}
use Rattle.std.proofs.Common.{suc, sym, ap, subst, ◌∙◌, inl, inr, arith}
use Rattle.std.proofs.lemmas.List.{length-map}
use Rattle.rsvp_base.specs.Members.{In}
use Rattle.rsvp_base.specs.Orders.{sessions}
use Rattle.rsvp_base.specs.Sets.{set_of}
use Rattle.rsvp_base.specs.Table.{size}
use Rattle.rsvp_base.specs.declared.session.Session.{Session}
use Rattle.rsvp_base.proofs.Members.{in_filter}
use Rattle.rsvp_base.proofs.Tables.{tied_same}
use Rattle.tree_model.specs.Networks.{Net}
use Rattle.tree_model.specs.declared.locals.LocalSender.{LocalSender}
use Rattle.tree_model.specs.declared.locals.LocalWant.{LocalWant}
use Rattle.tree_model.specs.Wants.{Locals, of_session, live}
use Rattle.network_demand.specs.Demands.{AreLocals, few_of}
use Rattle.network_demand.proofs.Inside.{index_in}

place_of : {X : Type 0} (xs : List X) (x : X) → In x xs → (i : ℕ) × (i < length xs) × ((d : X) → slice_index_or xs i d ≡ x)
place_of [] x i = absurd i
place_of (y ∷ ys) x (inl e) = (0, omega arith, λ d. sym e)
place_of (y ∷ ys) x (inr j) = let r = place_of ys x j in let lt = r.1 in (suc r.0, omega arith, r.2)

pub all_in : {X : Type 0} (P : X → Type 0) (xs : List X) → All P xs → (x : X) → In x xs → P x
all_in P xs all x i = let r = place_of xs x i in subst P (r.2 x) (all r.0 x r.1)

pub in_all : {X : Type 0} (P : X → Type 0) (xs : List X) → ((x : X) → In x xs → P x) → All P xs
in_all P xs every k d lt = every _ (index_in xs k d lt)

abbrev pub FewSessions : List LocalWant → Type 0
FewSessions ws = size (set_of {o = sessions} (each (λ (w : LocalWant). w.session) ws)) ≤ 32

pub locals_told : (net : Net) (l : Locals) → All (λ w. w.node < net.nodes) l.wants → FewSessions l.wants → All (few_of l.senders) l.senders → AreLocals net l
locals_told net l nodes sessions_few few =
    record { nodes = all_in (λ w. w.node < net.nodes) l.wants nodes; few_sessions = sessions_few; few_senders = λ s. by s (filter (of_session s) l.senders) refl }
  where
    by : (s : Session) (xs : List LocalSender) → filter (of_session s) l.senders ≡ xs → length (live l s) ≤ 16
    by s [] e = let a = ap length (ap (each (λ (x : LocalSender). x.sender)) e) in omega arith
    by s (x ∷ xs) e =
        let i = in_filter (of_session s) x l.senders (subst (λ (ys : List LocalSender). In x ys) (sym e) (inl refl)) in
        let same = tied_same sessions s x.session i.1 in
        let le = all_in (few_of l.senders) l.senders few x i.0 in
        let len = length-map (filter (of_session s) l.senders) (λ (x : LocalSender). x.sender) in
        let at = ap (λ (t : Session). length (filter (of_session t) l.senders)) same in
        omega arith

pub locals_tested : (net : Net) (l : Locals) → AreLocals net l → All (λ w. w.node < net.nodes) l.wants × (FewSessions l.wants × All (few_of l.senders) l.senders)
locals_tested net l a = (
  in_all (λ w. w.node < net.nodes) l.wants a.nodes,
  (
    a.few_sessions,
    in_all (few_of l.senders) l.senders (λ x i. let le = a.few_senders x.session in let len = length-map (filter (of_session x.session) l.senders) (λ (y : LocalSender). y.sender) in
        omega arith),
  ),
)

module _ (net : Net) (l : Locals) (n : ℕ) (ws : List LocalWant) (e : n ≡ net.nodes) (f : ws ≡ l.wants) where
  inside_told : All (λ w. w.node < n) ws → All (λ w. w.node < net.nodes) l.wants
  inside_told all = subst (λ (k : ℕ). All (λ w. w.node < k) l.wants) e (subst (λ (ys : List LocalWant). All (λ w. w.node < n) ys) f all)

  inside_tested : All (λ w. w.node < net.nodes) l.wants → All (λ w. w.node < n) ws
  inside_tested all = subst (λ (ys : List LocalWant). All (λ w. w.node < n) ys) (sym f) (subst (λ (k : ℕ). All (λ w. w.node < k) l.wants) (sym e) all)

  -- wants are inside, so that the other test decides
  pub can_then : (b : Bool) → All (λ w. w.node < n) ws → (b ≡ true) ↔ (FewSessions l.wants × All (few_of l.senders) l.senders) → (b ≡ true) ↔ AreLocals net l
  can_then b all few = (λ t. let r = few.0 t in locals_told net l (inside_told all) r.0 r.1, λ a. few.1 (locals_tested net l a).1)

  -- a want is not
  pub can_else : (b : Bool) → b ≡ false → (b ≡ true) ↔ All (λ w. w.node < n) ws → (b ≡ true) ↔ AreLocals net l
  can_else b off inside = (λ t. absurd (let z : false ≡ true = sym off ∙ t in cc), λ a. inside.1 (inside_tested (locals_tested net l a).0))
