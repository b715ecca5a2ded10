-- The form of what the words of a line say, beyond its rules: of a line of at most so many bytes.
use Rattle.std.proofs.Common.{◌≡◌, ℕ, suc, ◌≤◌, ◌<◌, List, [], ◌∷◌, length, Bool, true, false, cond, Option, None, Some, arith, refl, sym, ap, subst, ◌∙◌, inl, inr}
use Rattle.std.proofs.lemmas.Bool.{leb-true}
use Rattle.std.proofs.lemmas.List.{length-map}
use Rattle.std.specs.Prelude.{◌==◌, ◌&&◌, codes, nat_le, nat_lt, map as each}
use Rattle.std.specs.List.{onto_first, slice_split}
use Rattle.std.specs.Str.{bytes_eq, byte}
use Rattle.rsvp_base.specs.declared.style.StyleKind.{StyleKind}
use Rattle.rsvp_base.specs.declared.style.StyleKind.TheVariants.{Wild, Fixed, Shared}
use Rattle.rsvp_base.specs.Members.{In}
use Rattle.rsvp_base.proofs.Members.{in_each, in_filter}
use Rattle.rsvp_base.proofs.SetLaws.{and_both}
use Rattle.script_words.specs.declared.raw.SenderWord.{SenderWord}
use Rattle.script_words.specs.Steps.{◌>>=◌, each_of}
use Rattle.script_words.specs.Words.{words_of}
use Rattle.script_words.specs.Numbers.{number_of}
use Rattle.rsvp_base.specs.EndNames.{is_name, name_of}
use Rattle.script_words.specs.Addresses.{quad_of, quads_of}
use Rattle.script_words.specs.Parts.{parts_of}
use Rattle.script_words.specs.Sessions.{session_of, sender_of, senders_of}
use Rattle.script_words.specs.Styles.{style_of}
use Rattle.script_words.specs.Flows.{flow_of}
use Rattle.script_words.proofs.PartLemmas.{some_parts}
use Rattle.script_grammar.specs.LineKinds.{Kinds, as_wild, at_nodes, by_first, bytes_of, clear_line, declared, drop_line, end_line, flags_line, hop_line, hop_wall, in_flight, inject_line}
use Rattle.script_grammar.specs.LineKinds.{is_comment, left_over, script_line_of, link_line, lone_number, node_line, numbered, others, pairs_of, pass_line, path_of, period_line, quit_line}
use Rattle.script_grammar.specs.LineKinds.{report_line, reroute_line, resv_of, said_at_node, said_by, said_in_flight, said_left_over, said_other, seed_line, send_line, sender_wall}
use Rattle.script_grammar.specs.LineKinds.{stale_blockade_line, stale_hop, stale_path_line, stale_resv_line, stale_sender, stale_senders, trace_line, want_line, want_of}
use Rattle.script_grammar.specs.LineKinds.{advert_line, adverts_line, latency_line, want_senders, wild_word}
use Rattle.script_grammar.specs.declared.line.ScriptLine.{ScriptLine}
use Rattle.script_grammar.specs.declared.line.ScriptLine.TheVariants as line

-- ---- the form of a line
-- someone is named, and for WF by the address alone
abbrev pub IsResvForm : StyleKind → List SenderWord → Type 0
IsResvForm Wild xs = (0 < length xs) × ((x : SenderWord) → In x xs → x.port ≡ 0)
IsResvForm Fixed xs = 0 < length xs
IsResvForm Shared xs = 0 < length xs

abbrev pub IsWantForm : StyleKind → List SenderWord → Type 0
IsWantForm Wild xs = Unit {0}
IsWantForm Fixed xs = 0 < length xs
IsWantForm Shared xs = 0 < length xs

-- ---- words are no longer than their line
abbrev AreShort : ℕ → List (List ℕ) → Type 0
AreShort n ws = (w : List ℕ) → In w ws → length w ≤ n

-- with one byte more in front of the first part
onto_short : (n x : ℕ) (parts : List (List ℕ)) → AreShort n parts → AreShort (suc n) (onto_first x parts)
onto_short n x [] short w (inl e) = subst (λ (z : List ℕ). length z ≤ suc n) (sym e) (omega arith)
onto_short n x [] short w (inr i) = absurd i
onto_short n x (part ∷ parts) short w (inl e) = let first = short part (inl refl) in subst (λ (z : List ℕ). length z ≤ suc n) (sym e) (omega (arith, first))
onto_short n x (part ∷ parts) short w (inr i) = let other = short w (inr i) in omega (arith, other)

with_empty : (n : ℕ) (parts : List (List ℕ)) → AreShort n parts → AreShort (suc n) ([] ∷ parts)
with_empty n parts short w (inl e) = subst (λ (z : List ℕ). length z ≤ suc n) (sym e) (omega arith)
with_empty n parts short w (inr i) = let other = short w i in omega (arith, other)

one_more : (n x : ℕ) (parts : List (List ℕ)) → AreShort n parts → (b : Bool) → AreShort (suc n) (cond b ([] ∷ parts) (onto_first x parts))
one_more n x parts short true = with_empty n parts short
one_more n x parts short false = onto_short n x parts short

alone : AreShort 0 ([] ∷ [])
alone w (inl e) = subst (λ (z : List ℕ). length z ≤ 0) (sym e) (omega arith)
alone w (inr i) = absurd i

split_short : (test : ℕ → Bool) (text : List ℕ) → AreShort (length text) (slice_split test text)
split_short test [] = alone
split_short test (x ∷ xs) = one_more (length xs) x (slice_split test xs) (split_short test xs) (test x)

words_short : (text : List ℕ) → AreShort (length text) (words_of text)
words_short text w i = split_short (λ c. c == byte " ") text w (in_filter (λ word. nat_lt 0 (length word)) w (parts_of (byte " ") text) i).0

-- ---- what was read
opened : {A B : Type 0} (m : Option A) (next : A → Option B) (b : B) → (m >>= next) ≡ Some b → (a : A) × (m ≡ Some a) × (next a ≡ Some b)
opened None next b e = absurd (cc)
opened (Some a) next b e = (a, refl, e)

the_same : {A : Type 0} (a b : A) → Some a ≡ Some b → a ≡ b
the_same a b e = cc

as_many : {W X : Type 0} (read : W → Option X) (ws : List W) (xs : List X) → each_of read ws ≡ Some xs → length xs ≡ length ws
as_many read [] xs e = ap length (sym (the_same [] xs e))
as_many {W} {X} read (w ∷ ws) xs e =
    let a = opened (read w) (λ x. each_of read ws >>= λ ys. Some (x ∷ ys)) xs e in
    let b = opened (each_of read ws) (λ ys. Some (a.0 ∷ ys)) xs a.2 in
    ap length (sym (the_same (a.0 ∷ b.0) xs b.2)) ∙ ap suc (as_many read ws b.0 b.1)

a_name : (word name : List ℕ) → name_of word ≡ Some name → is_name name ≡ true
a_name word name e = by (is_name word) refl e
  where
    by : (b : Bool) → is_name word ≡ b → cond b (Some word) None ≡ Some name → is_name name ≡ true
    by true is e = let same : word ≡ name = cc in sym (ap is_name same) ∙ is
    by false is e = absurd (cc)

-- ---- lists of senders
some_senders : (word : List ℕ) (xs : List SenderWord) → senders_of word ≡ Some xs → 0 < length xs
some_senders word xs e = let same = as_many sender_of (parts_of (byte ",") word) xs e in let some = some_parts (byte ",") word in omega (arith, same, some)

resv_form : (st : StyleKind) (word : List ℕ) (xs : List SenderWord) → stale_senders st word ≡ Some xs → IsResvForm st xs
resv_form Wild word xs e =
    let a = opened (quads_of word) as_wild xs e in
    let same : each wild_word a.0 ≡ xs = the_same (each wild_word a.0) xs a.2 in
    let many = as_many quad_of (parts_of (byte ",") word) a.0 a.1 in
    let some = some_parts (byte ",") word in
    let size = length-map a.0 wild_word in
    subst (IsResvForm Wild) same (omega (arith, many, some, size), λ x i. let q = in_each wild_word x a.0 i in ap (λ (z : SenderWord). z.port) q.2)
resv_form Fixed word xs e = some_senders word xs e
resv_form Shared word xs e = some_senders word xs e

want_form : (st : StyleKind) (word : List ℕ) (xs : List SenderWord) → want_senders st word ≡ Some xs → IsWantForm st xs
want_form Wild word xs e = tt
want_form Fixed word xs e = some_senders word xs e
want_form Shared word xs e = some_senders word xs e

-- ---- of a line of at most `n` bytes
module _ (n : ℕ) where
  -- its names are names, its lists are as long as they may be, and what is injected is read of a word of it
  abbrev pub Formed : ScriptLine → Type 0
  Formed (line.End l) = is_name l.name ≡ true
  Formed (line.Link names) = (2 ≤ length names) × (length names ≤ 8)
  Formed (line.StaleResv l) = IsResvForm l.style l.senders
  Formed (line.Want l) = IsWantForm l.style l.senders
  Formed (line.Inject l) = (word : List ℕ) × (bytes_of word ≡ Some l.bytes) × (length word ≤ n)
  Formed _ = Unit {0}

  abbrev Good : Option ScriptLine → Type 0
  Good None = Unit {0}
  Good (Some l) = Formed l

  on_read : {A : Type 0} (m : Option A) (next : A → Option ScriptLine) → ((a : A) → m ≡ Some a → Good (next a)) → Good (m >>= next)
  on_read None next h = tt
  on_read (Some a) next h = h a refl

  choose : (b : Bool) (x y : Option ScriptLine) → (b ≡ true → Good x) → Good y → Good (cond b x y)
  choose true x y h k = h refl
  choose false x y h k = k

  -- ---- part 1
  period_good : (ws : List (List ℕ)) → Good (period_line ws)
  unfolding period_line
  period_good (ms ∷ []) = on_read (number_of ms) _ (λ n _. tt)
  period_good _ = tt

  seed_good : (ws : List (List ℕ)) → Good (seed_line ws)
  unfolding seed_line
  seed_good (seed ∷ []) = on_read (number_of seed) _ (λ n _. tt)
  seed_good _ = tt

  node_good : (ws : List (List ℕ)) → Good (node_line ws)
  unfolding node_line
  node_good (name ∷ []) = on_read (name_of name) _ (λ n _. tt)
  node_good _ = tt

  end_good : (ws : List (List ℕ)) → Good (end_line ws)
  unfolding end_line
  end_good (name ∷ node ∷ addr ∷ capacity ∷ mtu ∷ []) =
      on_read (name_of name) _ (λ n named. on_read (name_of node) _ (λ m _. on_read (quad_of addr) _
      (λ a _. on_read (number_of capacity) _ (λ c _. on_read (number_of mtu) _ (λ u _. a_name name n named)))))
  end_good _ = tt

  latency_good : (ws : List (List ℕ)) → Good (latency_line ws)
  unfolding latency_line
  latency_good (end ∷ latency ∷ []) = on_read (name_of end) _ (λ e _. on_read (number_of latency) _ (λ n _. tt))
  latency_good _ = tt

  link_good : (ws : List (List ℕ)) → Good (link_line ws)
  unfolding link_line
  link_good ws =
      choose (nat_le 2 (length ws) && nat_le (length ws) 8) _ None
      (λ e. on_read (each_of name_of ws) _
      (λ names read.
      let same = as_many name_of ws names read in
      let both = and_both (nat_le 2 (length ws)) (nat_le (length ws) 8) e in
      let some : 2 ≤ length ws = leb-true 2 (length ws) both.0 in
      let few : length ws ≤ 8 = leb-true (length ws) 8 both.1 in
      (omega (arith, same, some), omega (arith, same, few))))
      tt

  hop_good : (ws : List (List ℕ)) → Good (hop_line ws)
  unfolding hop_line
  hop_good (group ∷ source ∷ from ∷ to ∷ []) = on_read (quad_of group) _ (λ g _. on_read (quad_of source) _ (λ s _. on_read (name_of from) _ (λ f _. on_read (name_of to) _ (λ t _. tt))))
  hop_good _ = tt

  -- ---- part 2
  path_good : (ws : List (List ℕ)) → Good (stale_path_line ws)
  unfolding stale_path_line path_of
  path_good (node ∷ session ∷ sender ∷ end ∷ addr ∷ flow ∷ left ∷ []) =
      on_read (name_of node) _ (λ n _. on_read (session_of session) _ (λ s _. on_read (sender_of sender) _
      (λ x _. on_read (name_of end) _ (λ e _. on_read (quad_of addr) _ (λ a _. on_read (flow_of flow) _ (λ f _. on_read (number_of left) _ (λ l _. tt)))))))
  path_good _ = tt

  resv_good : (ws : List (List ℕ)) → Good (stale_resv_line ws)
  unfolding stale_resv_line resv_of
  resv_good (end ∷ session ∷ style ∷ addr ∷ senders ∷ flow ∷ left ∷ []) =
      on_read (name_of end) _
      (λ e _. on_read (session_of session) _ (λ s _. on_read (style_of style) _ (λ st _. on_read (quad_of addr) _
      (λ a _. on_read (stale_senders st senders) _ (λ x read. on_read (flow_of flow) _ (λ f _. on_read (number_of left) _ (λ l _. resv_form st senders x read)))))))
  resv_good _ = tt

  hop_wall_good : (node session : List ℕ) (ws : List (List ℕ)) → Good (stale_hop node session ws)
  unfolding stale_hop hop_wall
  hop_wall_good node session (end ∷ addr ∷ sub ∷ flow ∷ left ∷ []) =
      on_read (name_of node) _ (λ n _. on_read (session_of session) _ (λ s _. on_read (name_of end) _
      (λ e _. on_read (quad_of addr) _ (λ a _. on_read (number_of sub) _ (λ v _. on_read (flow_of flow) _ (λ f _. on_read (number_of left) _ (λ l _. tt)))))))
  hop_wall_good node session _ = tt

  sender_wall_good : (node session : List ℕ) (ws : List (List ℕ)) → Good (stale_sender node session ws)
  unfolding stale_sender sender_wall
  sender_wall_good node session (sender ∷ sub ∷ flow ∷ left ∷ []) =
      on_read (name_of node) _ (λ n _. on_read (session_of session) _ (λ s _. on_read (sender_of sender) _
      (λ x _. on_read (number_of sub) _ (λ v _. on_read (flow_of flow) _ (λ f _. on_read (number_of left) _ (λ l _. tt))))))
  sender_wall_good node session _ = tt

  wall_good : (ws : List (List ℕ)) → Good (stale_blockade_line ws)
  unfolding stale_blockade_line
  wall_good (node ∷ session ∷ target ∷ behind) =
      choose (bytes_eq target (codes "hop")) _ _ (λ _. hop_wall_good node session behind) (choose (bytes_eq target (codes "sender")) _ None (λ _. sender_wall_good node session behind) tt)
  wall_good _ = tt

  -- ---- part 3
  send_good : (ws : List (List ℕ)) → Good (send_line ws)
  unfolding send_line
  send_good (node ∷ session ∷ sender ∷ flow ∷ []) =
      on_read (name_of node) _ (λ n _. on_read (session_of session) _ (λ s _. on_read (sender_of sender) _ (λ x _. on_read (flow_of flow) _ (λ f _. tt))))
  send_good _ = tt

  drop_good : (ws : List (List ℕ)) → Good (drop_line ws)
  unfolding drop_line
  drop_good (node ∷ session ∷ sender ∷ []) = on_read (name_of node) _ (λ n _. on_read (session_of session) _ (λ s _. on_read (sender_of sender) _ (λ x _. tt)))
  drop_good _ = tt

  advert_good : (ws : List (List ℕ)) → Good (advert_line ws)
  unfolding advert_line
  advert_good (node ∷ session ∷ sender ∷ []) = on_read (name_of node) _ (λ n _. on_read (session_of session) _ (λ s _. on_read (sender_of sender) _ (λ x _. tt)))
  advert_good _ = tt

  want_of_good : (node session style senders flow : List ℕ) (confirm : Bool) → Good (want_of node session style senders flow confirm)
  unfolding want_of
  want_of_good node session style senders flow confirm =
      on_read (name_of node) _ (λ n _. on_read (session_of session) _ (λ s _. on_read (style_of style) _
      (λ st _. on_read (want_senders st senders) _ (λ x read. on_read (flow_of flow) _ (λ f _. want_form st senders x read)))))

  want_good : (ws : List (List ℕ)) → Good (want_line ws)
  unfolding want_line
  want_good (node ∷ session ∷ style ∷ senders ∷ flow ∷ []) = want_of_good node session style senders flow false
  want_good (node ∷ session ∷ style ∷ senders ∷ flow ∷ confirm ∷ []) = choose (bytes_eq confirm (codes "confirm")) _ None (λ _. want_of_good node session style senders flow true) tt
  want_good _ = tt

  quit_good : (ws : List (List ℕ)) → Good (quit_line ws)
  unfolding quit_line
  quit_good (node ∷ session ∷ []) = on_read (name_of node) _ (λ n _. on_read (session_of session) _ (λ s _. tt))
  quit_good _ = tt

  numbered_good : (kind : ℕ → ScriptLine) → ((n : ℕ) → Formed (kind n)) → (ws : List (List ℕ)) → Good (numbered kind ws)
  numbered_good kind h ws = on_read (lone_number ws) (λ n. Some (kind n)) (λ n _. h n)

  pass_good : (ws : List (List ℕ)) → Good (pass_line ws)
  unfolding pass_line
  pass_good (number ∷ []) = on_read (number_of number) _ (λ n _. tt)
  pass_good _ = tt

  clear_good : (ws : List (List ℕ)) → Good (clear_line ws)
  unfolding clear_line
  clear_good (node ∷ []) = on_read (name_of node) _ (λ n _. tt)
  clear_good _ = tt

  trace_good : (ws : List (List ℕ)) → Good (trace_line ws)
  unfolding trace_line
  trace_good (word ∷ []) = choose (bytes_eq word (codes "on")) _ _ (λ _. tt) (choose (bytes_eq word (codes "off")) _ None (λ _. tt) tt)
  trace_good _ = tt

  report_good : (ws : List (List ℕ)) → Good (report_line ws)
  unfolding report_line
  report_good (end ∷ []) = on_read (name_of end) _ (λ n _. tt)
  report_good _ = tt

  flags_good : (ws : List (List ℕ)) → Good (flags_line ws)
  unfolding flags_line
  flags_good [] = tt
  flags_good _ = tt

  adverts_good : (ws : List (List ℕ)) → Good (adverts_line ws)
  unfolding adverts_line
  adverts_good [] = tt
  adverts_good _ = tt

  inject_good : (ws : List (List ℕ)) → AreShort n ws → Good (inject_line ws)
  unfolding inject_line
  inject_good (end ∷ addr ∷ digits ∷ []) short =
      on_read (name_of end) _
      (λ e _. on_read (quad_of addr) _
      (λ a _. on_read (bytes_of digits) _
      (λ b read. (digits, read, short digits (inr (inr (inl refl)))))))
  inject_good _ short = tt

  reroute_good : (ws : List (List ℕ)) → Good (reroute_line ws)
  unfolding reroute_line
  reroute_good (group ∷ source ∷ ends) = on_read (quad_of group) _ (λ g _. on_read (quad_of source) _ (λ s _. on_read (pairs_of ends) _ (λ hops _. tt)))
  reroute_good _ = tt

  -- ---- a line, by its first word
  AreGood : Kinds → Type 0
  AreGood [] = Unit {0}
  AreGood (kind ∷ more) = ((ws : List (List ℕ)) → AreShort n ws → Good (kind.1 ws)) × AreGood more

  by_first_good : (kinds : Kinds) (other : List ℕ → List (List ℕ) → Option ScriptLine) → AreGood kinds → ((f : List ℕ) (ws : List (List ℕ)) → AreShort n ws → Good (other f ws))
      → (first : List ℕ) (behind : List (List ℕ)) → AreShort n behind → Good (by_first kinds other first behind)
  unfolding AreGood
  by_first_good [] other h k first behind short = k first behind short
  by_first_good (kind ∷ more) other h k first behind short = choose (bytes_eq first kind.0) (kind.1 behind) (by_first more other first behind) (λ _. h.0 behind short)
      (by_first_good more other h.1 k first behind short)

  others_good : (f : List ℕ) (ws : List (List ℕ)) → AreShort n ws → Good (said_other f ws)
  unfolding AreGood said_other
  others_good = by_first_good others (λ f b. None) (
    (λ ws _. trace_good ws),
    ((λ ws _. report_good ws), ((λ ws _. flags_good ws), ((λ ws _. adverts_good ws), ((λ ws _. reroute_good ws), tt)))),
  ) (λ f b short. tt)

  flight_good : (f : List ℕ) (ws : List (List ℕ)) → AreShort n ws → Good (said_in_flight f ws)
  unfolding AreGood said_in_flight
  flight_good =
      by_first_good in_flight said_other (
        (λ ws _. numbered_good line.Wait (λ n. tt) ws),
        (
          (λ ws _. pass_good ws),
          (
            (λ ws _. numbered_good line.Rounds (λ n. tt) ws),
            ((λ ws _. numbered_good line.Deliver (λ n. tt) ws), ((λ ws _. numbered_good line.Lose (λ n. tt) ws), ((λ ws _. numbered_good line.Copy (λ n. tt) ws), (inject_good, tt)))),
          ),
        ),
      ) others_good

  nodes_good : (f : List ℕ) (ws : List (List ℕ)) → AreShort n ws → Good (said_at_node f ws)
  unfolding AreGood said_at_node
  nodes_good = by_first_good at_nodes said_in_flight (
    (λ ws _. send_good ws),
    ((λ ws _. drop_good ws), ((λ ws _. advert_good ws), ((λ ws _. want_good ws), ((λ ws _. quit_good ws), ((λ ws _. clear_good ws), tt))))),
  ) flight_good

  left_good : (f : List ℕ) (ws : List (List ℕ)) → AreShort n ws → Good (said_left_over f ws)
  unfolding AreGood said_left_over
  left_good = by_first_good left_over said_at_node ((λ ws _. path_good ws), ((λ ws _. resv_good ws), ((λ ws _. wall_good ws), tt))) nodes_good

  said_good : (ws : List (List ℕ)) → AreShort n ws → Good (said_by ws)
  unfolding AreGood said_by
  said_good [] short = tt
  said_good (first ∷ behind) short = by_first_good declared said_left_over (
    (λ ws _. period_good ws),
    ((λ ws _. seed_good ws), ((λ ws _. node_good ws), ((λ ws _. end_good ws), ((λ ws _. latency_good ws), ((λ ws _. link_good ws), ((λ ws _. hop_good ws), tt)))))),
  ) left_good first behind (λ w i. short w (inr i))

  pub formed : (text : List ℕ) (said : ScriptLine) → length text ≤ n → script_line_of text ≡ Some said → Formed said
  formed text said few e =
      let short : AreShort n (words_of text) = λ w i. let each_one = words_short text w i in omega (arith, few, each_one) in
      subst Good e (choose (is_comment text) (Some line.Skipped) (said_by (words_of text)) (λ _. tt) (said_good (words_of text) short))
