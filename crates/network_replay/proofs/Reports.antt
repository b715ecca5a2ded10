-- Reports of ends are those of the model.
use Rattle.std.proofs.Common.{◌≡◌, ℕ, zero, suc, ◌+◌, ◌≤◌, List, [], ◌∷◌, ◌++◌, Bool, true, false, Option, None, Some, length, drop, refl, sym, ap, ◌∙◌, arith, append-nil, append_assoc, add-one}
use Rattle.std.specs.Prelude.{slice_get, map as each, fold, Result, Ok, Err, OnOk, OnErr}
use Rattle.std.specs.List.{flat_map, range_with_len}
use Rattle.rsvp_base.specs.declared.room.NoMemory.{NoMemory}
use Rattle.rsvp_base.specs.declared.entry_key.EntryKey.{EntryKey}
use Rattle.rsvp_base.specs.declared.part.Part.{Part}
use Rattle.value_texts.specs.Reports.{head_text, held_of}
use Rattle.router_rules.specs.Books.{book}
use Rattle.router_rules.specs.declared.entry.Entry.{Entry}
use Rattle.router_rules.specs.Facts.{Facts}
use Rattle.router_rules.specs.Flags.{entry_at, entries_at, entries_of}
use Rattle.router_rules.specs.NodeConfig.{NodeConfig}
use Rattle.style_rules.specs.Lines.{held}
use Rattle.tree_model.specs.declared.hops.End.{End}
use Rattle.tree_model.specs.Networks.{iface_of}
use Rattle.network_flight.specs.Runs.{with_parts, node_facts, end_report}
use Rattle.network_flight.specs.Worlds.{World, config_of}
use Rattle.network_replay.specs.Agreeing.{IsNode}
use Rattle.network_replay.specs.Following.{Seen}
use Rattle.network_replay.specs.Reporting.{Says, entry_said, report_kind}

-- ---- one text after another
pub says_then : (r : Result (Unit {0}) NoMemory) (a b c t u : List ℕ) → b ≡ a ++ t → Says r b c u → Says r a c (t ++ u)
says_then (Ok _) a b c t u e s = s ∙ ap (λ (x : List ℕ). x ++ u) e ∙ append_assoc a t u
says_then (Err _) a b c t u e s = (s.0, sym (append_assoc a t u) ∙ ap (λ (x : List ℕ). x ++ u) (sym e) ∙ s.1)

pub says_stop : (n : NoMemory) (a b t u : List ℕ) → Says (Err n) a b t → Says (Err n) a b (t ++ u)
says_stop n a b t u s = (s.0 ++ u, sym (append_assoc a t u) ∙ ap (λ (x : List ℕ). x ++ u) s.1 ∙ append_assoc b s.0 u)

pub says_none : (a : List ℕ) → Says (Ok tt) a a []
says_none a = sym (append-nil a)

pub says_unsaid : (n : NoMemory) (a b t : List ℕ) → b ≡ a → Says (Err n) a b t
says_unsaid n a b t e = (t, ap (λ (x : List ℕ). x ++ t) (sym e))

pub says_whole : (r : Result (Unit {0}) NoMemory) (a b t u : List ℕ) → t ≡ u → OnOk r (b ≡ a ++ t) → OnErr r (b ≡ a) → Says r a b u
says_whole (Ok _) a b t u e said unsaid = said ∙ ap (λ (x : List ℕ). a ++ x) e
says_whole (Err n) a b t u e said unsaid = says_unsaid n a b u unsaid

-- ---- lists
flat_each : {A B : Type 0} (f : A → B) (g : B → List ℕ) (xs : List A) → flat_map g (each f xs) ≡ flat_map (λ x. g (f x)) xs
flat_each f g [] = refl
flat_each f g (x ∷ xs) = ap (λ (ys : List ℕ). g (f x) ++ ys) (flat_each f g xs)

sum_from : {A B : Type 0} (f : A → B) (g : B → ℕ) (xs : List A) (n : ℕ) → fold (λ a y. a + g y) n (each f xs) ≡ fold (λ a x. a + g (f x)) n xs
sum_from f g [] n = refl
sum_from f g (x ∷ xs) n = sum_from f g xs (n + g (f x))

pub drop_get : {A : Type 0} (xs : List A) (k : ℕ) (x : A) → slice_get xs k ≡ Some x → drop k xs ≡ x ∷ drop (suc k) xs
drop_get [] k x e = absurd (cc)
drop_get (y ∷ ys) zero x e = let same : y ≡ x = (let h : Some y ≡ Some x = e in cc) in ap (λ z. z ∷ ys) same
drop_get (y ∷ ys) (suc k) x e = drop_get ys k x e

pub drop_past : {A : Type 0} (xs : List A) (k : ℕ) → slice_get xs k ≡ None → drop k xs ≡ []
drop_past [] zero e = refl
drop_past [] (suc k) e = refl
drop_past (y ∷ ys) zero e = absurd (let h : Some y ≡ None = e in cc)
drop_past (y ∷ ys) (suc k) e = drop_past ys k e

pub drop_all : {A : Type 0} (xs : List A) (k : ℕ) → length xs ≤ k → drop k xs ≡ []
drop_all [] zero le = refl
drop_all [] (suc k) le = refl
drop_all (y ∷ ys) zero le = absurd (omega arith)
drop_all (y ∷ ys) (suc k) le = drop_all ys k (omega arith)

-- ---- the entries from a place on
module _ (flags : Bool) (xs : List Entry) where
  abbrev pub said_behind : ℕ → List ℕ
  said_behind k = flat_map (entry_said flags) (drop k xs)

  pub one_said : (k : ℕ) (e : Entry) → slice_get xs k ≡ Some e → said_behind k ≡ entry_said flags e ++ said_behind (k + 1)
  one_said k e at = ap (λ (ys : List Entry). flat_map (entry_said flags) ys) (drop_get xs k e at) ∙ ap (λ m. entry_said flags e ++ said_behind m) (sym (add-one k))

  pub none_said : (k : ℕ) → slice_get xs k ≡ None → said_behind k ≡ []
  none_said k at = ap (λ (ys : List Entry). flat_map (entry_said flags) ys) (drop_past xs k at)

  pub all_said : (k : ℕ) → length xs ≤ k → said_behind k ≡ []
  all_said k le = ap (λ (ys : List Entry). flat_map (entry_said flags) ys) (drop_all xs k le)

-- ---- the text of an interface
abbrev keyed : Entry → EntryKey × Part
keyed e = (e.key, e.part)

abbrev charge : EntryKey × Part → ℕ
charge e = e.1.flow.r

pub node_text : (flags : Bool) (p : NodeConfig) (name : List ℕ) (e : End) (iface : ℕ) (f : Facts) (sum capacity : ℕ) → sum ≡ held (book f iface) → capacity ≡ e.iface.capacity
    → head_text name sum capacity ++ flat_map (entry_said flags) (entries_of p f iface) ≡ report_kind flags p name e iface f
unfolding entries_of
node_text false p name e iface f sum capacity is at =
    ap (λ n. head_text name n capacity ++ flat_map (entry_said false) (entries_at p f iface)) is
    ∙ ap (λ n. head_text name (held (book f iface)) n ++ flat_map (entry_said false) (entries_at p f iface)) at
    ∙ ap (λ (t : List ℕ). head_text name (held (book f iface)) e.iface.capacity ++ t) (flat_each (entry_at p f iface) (entry_said false) (book f iface).rows)
node_text true p name e iface f sum capacity is at =
    let entries = entries_at p f iface in
    let same : held_of (each keyed entries) ≡ held (book f iface) = sum_from keyed charge entries 0 ∙ sum_from (entry_at p f iface) (λ x. x.part.flow.r) (book f iface).rows 0 in
    ap (λ n. head_text name n capacity ++ flat_map (entry_said true) entries) (is ∙ sym same) ∙ ap (λ n. head_text name (held_of (each keyed entries)) n ++ flat_map (entry_said true) entries) at

-- ---- the report of an end
module _ (q : ℕ) (names : List (List ℕ)) (t : NodeConfig → List ℕ → End → ℕ → Facts → List ℕ) (w : World) (end : ℕ) where
  abbrev said : List ℕ → End → Facts → List ℕ
  said name x f = t (config_of q w.net w.trees x.node) name x (iface_of w.net.ends end) f

  pub no_name : slice_get names end ≡ None → end_report q names t w end ≡ []
  no_name e = ap (λ (o : Option (List ℕ)). with_parts said o (slice_get w.net.ends end) (node_facts w (slice_get w.net.ends end))) e

  pub no_end : slice_get w.net.ends end ≡ None → end_report q names t w end ≡ []
  no_end e = ap (λ (o : Option End). with_parts said (slice_get names end) o (node_facts w o)) e ∙ by (slice_get names end)
    where
      by : (n : Option (List ℕ)) → with_parts said n None None ≡ []
      by None = refl
      by (Some n) = refl

  pub no_node : (x : End) → slice_get w.net.ends end ≡ Some x → slice_get w.nodes x.node ≡ None → end_report q names t w end ≡ []
  no_node x e none =
      ap (λ (o : Option End). with_parts said (slice_get names end) o (node_facts w o)) e ∙ ap (λ (f : Option Facts). with_parts said (slice_get names end) (Some x) f) none ∙ by (slice_get names end)
    where
      by : (n : Option (List ℕ)) → with_parts said n (Some x) None ≡ []
      by None = refl
      by (Some n) = refl

  pub some_node : {R : Type 0} (see : Seen R) (name : List ℕ) (x : End) (iface : ℕ) (r : R) → slice_get names end ≡ Some name → slice_get w.net.ends end ≡ Some x → iface ≡ iface_of w.net.ends end
      → IsNode see q w x.node r
      → t (see.place r) name x iface (see.facts r w.clock) ≡ end_report q names t w end
  some_node see name x iface r named there by is =
      ap (λ (p : NodeConfig). t p name x iface (see.facts r w.clock)) is.place
      ∙ ap (λ i. t (config_of q w.net w.trees x.node) name x i (see.facts r w.clock)) by
      ∙ sym (ap (λ (o : Option (List ℕ)). with_parts said o (slice_get w.net.ends end) (node_facts w (slice_get w.net.ends end))) named
      ∙ ap (λ (o : Option End). with_parts said (Some name) o (node_facts w o)) there
      ∙ ap (λ (f : Option Facts). with_parts said (Some name) (Some x) f) is.facts)

-- ---- the reports from an end on
module _ (q : ℕ) (names : List (List ℕ)) (t : NodeConfig → List ℕ → End → ℕ → Facts → List ℕ) (w : World) where
  abbrev pub reports_from : ℕ → ℕ → List ℕ
  reports_from end left = flat_map (end_report q names t w) (range_with_len end left)

  pub one_report : (end left : ℕ) → reports_from end (suc left) ≡ end_report q names t w end ++ reports_from (end + 1) left
  one_report end left = refl
