-- Lines one after another: what leads where, and which line is bad.
use Rattle.std.proofs.Common.{◌≡◌, ◌⊎◌, ℕ, ◌<◌, ◌≤◌, List, [], ◌∷◌, ◌++◌, Option, Some, None, length, slice_get, suc, refl, sym, ap, subst, ◌∙◌, arith, inl, inr}
use Rattle.rsvp_base.specs.declared.addr.Addr.{Addr}
use Rattle.script_words.specs.Lines.{text_lines}
use Rattle.message_codec.proofs.OneAnswer.{a_message_is_one, no_fault_where_spelt, the_first_fault_is_one}
use Rattle.network_model.specs.RouterRules.Inputs.{Arrival, Spelt, Unspelt}
use Rattle.network_model.specs.TreeModel.declared.hops.LinkHop.{LinkHop}
use Rattle.network_model.specs.TreeModel.Networks.{Net}
use Rattle.tree_routing.specs.Answers.{IsUpTo, with_hop}
use Rattle.network_model.specs.Runs.{Plan}
use Rattle.network_model.specs.Events.{Injects}
use Rattle.script_words.specs.Addresses.{addr_value}
use Rattle.script_grammar.specs.Values.{tree_hop_value}
use Rattle.script_grammar.specs.Adds.{Adds, IsArrival, net_rerouted, with_event}
use Rattle.script_grammar.specs.Draft.{Draft, end_number, nothing, plan_of}
use Rattle.script_grammar.specs.Grammar.{Follows, HasFault, too_long, unread, broken, Leads, most_line, line_number, IsScript, IsBadLine}
use Rattle.script_grammar.specs.Laws.{OneBadLine}
use Rattle.script_grammar.specs.LineKinds.{script_line_of}
use Rattle.script_grammar.specs.Rules.{Rule, Keeps, KeepsAll, BreaksFirst, Closes, Exceeds, IsLoopOf}
use Rattle.network_model.specs.declared.excess.Excess.{Excess}
use Rattle.script_grammar.specs.declared.fault.Fault.{Fault}
use Rattle.script_grammar.specs.declared.fault.Fault.TheVariants.{Word, Late, Range, Name, Twice, Style, Limit, NotTree, Over, Loop}
use Rattle.script_grammar.specs.declared.line.ScriptLine.{ScriptLine}
use Rattle.script_grammar.specs.declared.line.ScriptLine.TheVariants as line

same_some : {A : Type 0} (a b : A) → Some a ≡ Some b → a ≡ b
same_some a b e = cc

-- ---- a line adds one thing
arrival_one : (bytes : List ℕ) (a b : Arrival) → IsArrival bytes a → IsArrival bytes b → a ≡ b
arrival_one bytes (Spelt m) (Spelt n) x y = ap Spelt (a_message_is_one bytes m n x y)
arrival_one bytes (Spelt m) (Unspelt e) x y = absurd (no_fault_where_spelt bytes m e x y)
arrival_one bytes (Unspelt e) (Spelt m) x y = absurd (no_fault_where_spelt bytes m e y x)
arrival_one bytes (Unspelt e) (Unspelt f) x y = ap Unspelt (the_first_fault_is_one bytes e f x y)

pub adds_one : (d : Draft) (l : ScriptLine) (m n : Draft) → Adds d l m → Adds d l n → m ≡ n
adds_one d line.Skipped m n x y = x ∙ sym y
adds_one d (line.Period ms) m n x y = x ∙ sym y
adds_one d (line.Seed times) m n x y = x ∙ sym y
adds_one d (line.Node name) m n x y = x ∙ sym y
adds_one d (line.End l) m n x y = x ∙ sym y
adds_one d (line.Latency l) m n x y = x ∙ sym y
adds_one d (line.Link names) m n x y = x ∙ sym y
adds_one d (line.Hop l) m n x y = x ∙ sym y
adds_one d (line.StalePath l) m n x y = x ∙ sym y
adds_one d (line.StaleResv l) m n x y = x ∙ sym y
adds_one d (line.StaleHopWall l) m n x y = x ∙ sym y
adds_one d (line.StaleSenderWall l) m n x y = x ∙ sym y
adds_one d (line.Send l) m n x y = x ∙ sym y
adds_one d (line.Drop l) m n x y = x ∙ sym y
adds_one d (line.Advert l) m n x y = x ∙ sym y
adds_one d (line.Want l) m n x y = x ∙ sym y
adds_one d (line.Quit l) m n x y = x ∙ sym y
adds_one d (line.Wait ms) m n x y = x ∙ sym y
adds_one d (line.Pass times) m n x y = x ∙ sym y
adds_one d (line.Deliver k) m n x y = x ∙ sym y
adds_one d (line.Lose k) m n x y = x ∙ sym y
adds_one d (line.Copy k) m n x y = x ∙ sym y
adds_one d (line.Clear node) m n x y = x ∙ sym y
adds_one d (line.Rounds times) m n x y = x ∙ sym y
adds_one d (line.Trace on) m n x y = x ∙ sym y
adds_one d line.Report m n x y = x ∙ sym y
adds_one d (line.ReportEnd end) m n x y = x ∙ sym y
adds_one d line.Flags m n x y = x ∙ sym y
adds_one d line.Adverts m n x y = x ∙ sym y
adds_one d (line.Inject l) m n x y = x.2 ∙ ap (λ a. with_event d (Injects (end_number d l.end) (addr_value l.dst) a)) (arrival_one l.bytes x.0 y.0 x.1 y.1) ∙ sym y.2
adds_one d (line.Reroute l) m n x y = x ∙ sym y

-- one line more
pub leads_on : (d : Draft) (texts : List (List ℕ)) (next new : Draft) (text : List ℕ) → Leads d texts next → Follows next text new → Leads d (texts ++ text ∷ []) new
leads_on d [] next new text e f = (new, ap_follows e f, refl)
  where
    ap_follows : next ≡ d → Follows next text new → Follows d text new
    ap_follows e f = rw e at f
leads_on d (t ∷ ts) next new text l f = (l.0, l.1, leads_on l.0 ts next new text l.2 f)

-- ---- one thing follows
pub follows_one : (d : Draft) (text : List ℕ) (m n : Draft) → Follows d text m → Follows d text n → m ≡ n
follows_one d text m n f g =
    let same = same_some f.said g.said (sym f.reads ∙ g.reads) in
    adds_one d g.said m n (subst (λ l. Adds d l m) same f.adds) g.adds

pub leads_one : (d : Draft) (texts : List (List ℕ)) (m n : Draft) → Leads d texts m → Leads d texts n → m ≡ n
leads_one d [] m n e f = e ∙ sym f
leads_one d (t ∷ ts) m n e f =
    let same : f.0 ≡ e.0 = follows_one d t f.0 e.0 f.1 e.1 in
    leads_one e.0 ts m n e.2 (subst (λ x. Leads x ts n) same f.2)

-- the lines before lead to what the rest follows
pub leads_split : (d : Draft) (before : List (List ℕ)) (text : List ℕ) (after : List (List ℕ)) (new : Draft) → Leads d (before ++ text ∷ after) new
    → (mid : Draft) × Leads d before mid × ((next : Draft) × Follows mid text next)
leads_split d [] text after new l = (d, refl, (l.0, l.1))
leads_split d (t ∷ ts) text after new l =
    let rest = leads_split l.0 ts text after new l.2 in
    (rest.0, (l.0, l.1, rest.1), rest.2)

-- ---- a fault keeps a line from following
breaks_none : (rules : Rule → Type 0) (excess : Excess → Type 0) (loop : Addr → List ℕ → List ℕ → Type 0) (why : Fault) → KeepsAll rules → BreaksFirst rules excess loop why → ⊥
breaks_none rules excess loop Word k b = b
breaks_none rules excess loop Late k b = b k.in_time
breaks_none rules excess loop Range k b = b.1 k.in_range
breaks_none rules excess loop Name k b = b.2 k.known
breaks_none rules excess loop Twice k b = b.3 k.new
breaks_none rules excess loop Style k b = b.4 k.of_style
breaks_none rules excess loop Limit k b = b.5 k.within_limits
breaks_none rules excess loop NotTree k b = b.6 k.of_tree
breaks_none rules excess loop (Over much) k b = b.7 k.within_capacity
breaks_none rules excess loop (Loop group from to) k b = b.8 k.loop_free

no_reading : (o : Option ScriptLine) (said : ScriptLine) → o ≡ Some said → o ≡ None → ⊥
no_reading o said e f = let h : Some said ≡ None = sym e ∙ f in cc

pub fault_or_follows : (d : Draft) (text : List ℕ) (why : Fault) (new : Draft) → HasFault d text why → Follows d text new → ⊥
fault_or_follows d text Limit new (too_long long) f = absurd (omega (arith, f.short))
fault_or_follows d text Word new (unread short gone) f = no_reading (script_line_of text) f.said f.reads gone
fault_or_follows d text why new (broken said _ short reads b) f =
    let same = same_some f.said said (sym f.reads ∙ reads) in
    breaks_none (Keeps d said) (Exceeds d said) (Closes d said) why (subst (λ l. KeepsAll (Keeps d l)) same f.valid) b

pub script_or_bad : (bytes : List ℕ) (p : Plan) (number : ℕ) (why : Fault) → IsScript bytes p → IsBadLine bytes number why → ⊥
script_or_bad bytes p number why s b =
    let whole : Leads nothing (b.before ++ b.text ∷ b.after) s.lines = subst (λ ls. Leads nothing ls s.lines) b.parts s.leads in
    let at = leads_split nothing b.before b.text b.after s.lines whole in
    let same : at.0 ≡ b.lines = leads_one nothing b.before at.0 b.lines at.1 b.leads in
    fault_or_follows b.lines b.text why at.2.0 b.fault (subst (λ d. Follows d b.text at.2.0) same at.2.1)

pub one_script_law : (bytes : List ℕ) (p q : Plan) → IsScript bytes p → IsScript bytes q → p ≡ q
one_script_law bytes p q s t = s.says ∙ ap plan_of (leads_one nothing (text_lines bytes) s.lines t.lines s.leads t.leads) ∙ sym t.says

-- ---- one loop
same_hop : (a b : LinkHop) → IsUpTo a b → IsUpTo b a → a ≡ b
same_hop a b (inl x) (inl y) = absurd (omega (arith, x, y))
same_hop a b (inl x) (inr y) = absurd (omega (arith, x, y.0))
same_hop a b (inr x) (inl y) = absurd (omega (arith, x.0, y))
same_hop a b (inr x) (inr y) =
    let to : a.to ≡ b.to = omega (arith, x.1, y.1) in
    λ i. record { from = x.0 i; to = to i }

loop_of_one : (d : Draft) (net : Net) (g a b : Addr) (f t u v : List ℕ) → IsLoopOf d net g a f t → IsLoopOf d net g b u v → Loop a f t ≡ Loop b u v
loop_of_one d net g a b f t u v x y =
    let hop : x.1 ≡ y.1 = same_hop x.1 y.1 (x.2.least y.1 y.2.on) (y.2.least x.1 x.2.on) in
    let group : a ≡ b = x.0 ∙ sym y.0 in
    let from : f ≡ u = same_some f u (sym x.3.0 ∙ ap (λ (h : LinkHop). slice_get d.names h.from) hop ∙ y.3.0) in
    let to : t ≡ v = same_some t v (sym x.3.1 ∙ ap (λ (h : LinkHop). slice_get d.names h.to) hop ∙ y.3.1) in
    λ i. Loop (group i) (from i) (to i)

loop_one : (d : Draft) (l : ScriptLine) (a b : Addr) (f t u v : List ℕ) → Closes d l a f t → Closes d l b u v → Loop a f t ≡ Loop b u v
loop_one d line.Skipped a b f t u v x y = absurd x
loop_one d (line.Period ms) a b f t u v x y = absurd x
loop_one d (line.Seed n) a b f t u v x y = absurd x
loop_one d (line.Node name) a b f t u v x y = absurd x
loop_one d (line.End l) a b f t u v x y = absurd x
loop_one d (line.Latency l) a b f t u v x y = absurd x
loop_one d (line.Link names) a b f t u v x y = absurd x
loop_one d (line.Hop l) a b f t u v x y = loop_of_one d (with_hop d.net (tree_hop_value d l)) (addr_value l.group) a b f t u v x y
loop_one d (line.StalePath l) a b f t u v x y = absurd x
loop_one d (line.StaleResv l) a b f t u v x y = absurd x
loop_one d (line.StaleHopWall l) a b f t u v x y = absurd x
loop_one d (line.StaleSenderWall l) a b f t u v x y = absurd x
loop_one d (line.Send l) a b f t u v x y = absurd x
loop_one d (line.Drop l) a b f t u v x y = absurd x
loop_one d (line.Advert l) a b f t u v x y = absurd x
loop_one d (line.Want l) a b f t u v x y = absurd x
loop_one d (line.Quit l) a b f t u v x y = absurd x
loop_one d (line.Wait ms) a b f t u v x y = absurd x
loop_one d (line.Pass n) a b f t u v x y = absurd x
loop_one d (line.Deliver k) a b f t u v x y = absurd x
loop_one d (line.Lose k) a b f t u v x y = absurd x
loop_one d (line.Copy k) a b f t u v x y = absurd x
loop_one d (line.Clear node) a b f t u v x y = absurd x
loop_one d (line.Rounds n) a b f t u v x y = absurd x
loop_one d (line.Trace on) a b f t u v x y = absurd x
loop_one d line.Report a b f t u v x y = absurd x
loop_one d (line.ReportEnd end) a b f t u v x y = absurd x
loop_one d line.Flags a b f t u v x y = absurd x
loop_one d line.Adverts a b f t u v x y = absurd x
loop_one d (line.Inject l) a b f t u v x y = absurd x
loop_one d (line.Reroute l) a b f t u v x y = loop_of_one d (net_rerouted d l) (addr_value l.group) a b f t u v x y

-- ---- one excess
excess_one : (d : Draft) (l : ScriptLine) (a b : Excess) → Exceeds d l a → Exceeds d l b → Over a ≡ Over b
excess_one d line.Skipped a b x y = absurd x
excess_one d (line.Period ms) a b x y = absurd x
excess_one d (line.Seed n) a b x y = absurd x
excess_one d (line.Node name) a b x y = absurd x
excess_one d (line.End l) a b x y = absurd x
excess_one d (line.Latency l) a b x y = absurd x
excess_one d (line.Link names) a b x y = absurd x
excess_one d (line.Hop l) a b x y = absurd x
excess_one d (line.StalePath l) a b x y = absurd x
excess_one d (line.StaleResv l) a b x y = ap Over (same_some a b (sym x ∙ y))
excess_one d (line.StaleHopWall l) a b x y = absurd x
excess_one d (line.StaleSenderWall l) a b x y = absurd x
excess_one d (line.Send l) a b x y = absurd x
excess_one d (line.Drop l) a b x y = absurd x
excess_one d (line.Advert l) a b x y = absurd x
excess_one d (line.Want l) a b x y = absurd x
excess_one d (line.Quit l) a b x y = absurd x
excess_one d (line.Wait ms) a b x y = absurd x
excess_one d (line.Pass n) a b x y = absurd x
excess_one d (line.Deliver k) a b x y = absurd x
excess_one d (line.Lose k) a b x y = absurd x
excess_one d (line.Copy k) a b x y = absurd x
excess_one d (line.Clear node) a b x y = absurd x
excess_one d (line.Rounds n) a b x y = absurd x
excess_one d (line.Trace on) a b x y = absurd x
excess_one d line.Report a b x y = absurd x
excess_one d (line.ReportEnd end) a b x y = absurd x
excess_one d line.Flags a b x y = absurd x
excess_one d line.Adverts a b x y = absurd x
excess_one d (line.Inject l) a b x y = absurd x
excess_one d (line.Reroute l) a b x y = absurd x

-- ---- one fault
breaks_one : (d : Draft) (l : ScriptLine) (a b : Fault) → BreaksFirst (Keeps d l) (Exceeds d l) (Closes d l) a → BreaksFirst (Keeps d l) (Exceeds d l) (Closes d l) b → a ≡ b
breaks_one d l Word b h k = absurd h
breaks_one d l Late Word h k = absurd k
breaks_one d l Late Late h k = refl
breaks_one d l Late Range h k = absurd (h k.0)
breaks_one d l Late Name h k = absurd (h k.0)
breaks_one d l Late Twice h k = absurd (h k.0)
breaks_one d l Late Style h k = absurd (h k.0)
breaks_one d l Late Limit h k = absurd (h k.0)
breaks_one d l Late NotTree h k = absurd (h k.0)
breaks_one d l Late (Over much) h k = absurd (h k.0)
breaks_one d l Late (Loop o of ot) h k = absurd (h k.0)
breaks_one d l Range Word h k = absurd k
breaks_one d l Range Late h k = absurd (k h.0)
breaks_one d l Range Range h k = refl
breaks_one d l Range Name h k = absurd ((h.1) k.1)
breaks_one d l Range Twice h k = absurd ((h.1) k.1)
breaks_one d l Range Style h k = absurd ((h.1) k.1)
breaks_one d l Range Limit h k = absurd ((h.1) k.1)
breaks_one d l Range NotTree h k = absurd ((h.1) k.1)
breaks_one d l Range (Over much) h k = absurd ((h.1) k.1)
breaks_one d l Range (Loop o of ot) h k = absurd ((h.1) k.1)
breaks_one d l Name Word h k = absurd k
breaks_one d l Name Late h k = absurd (k h.0)
breaks_one d l Name Range h k = absurd ((k.1) h.1)
breaks_one d l Name Name h k = refl
breaks_one d l Name Twice h k = absurd ((h.2) k.2)
breaks_one d l Name Style h k = absurd ((h.2) k.2)
breaks_one d l Name Limit h k = absurd ((h.2) k.2)
breaks_one d l Name NotTree h k = absurd ((h.2) k.2)
breaks_one d l Name (Over much) h k = absurd ((h.2) k.2)
breaks_one d l Name (Loop o of ot) h k = absurd ((h.2) k.2)
breaks_one d l Twice Word h k = absurd k
breaks_one d l Twice Late h k = absurd (k h.0)
breaks_one d l Twice Range h k = absurd ((k.1) h.1)
breaks_one d l Twice Name h k = absurd ((k.2) h.2)
breaks_one d l Twice Twice h k = refl
breaks_one d l Twice Style h k = absurd ((h.3) k.3)
breaks_one d l Twice Limit h k = absurd ((h.3) k.3)
breaks_one d l Twice NotTree h k = absurd ((h.3) k.3)
breaks_one d l Twice (Over much) h k = absurd ((h.3) k.3)
breaks_one d l Twice (Loop o of ot) h k = absurd ((h.3) k.3)
breaks_one d l Style Word h k = absurd k
breaks_one d l Style Late h k = absurd (k h.0)
breaks_one d l Style Range h k = absurd ((k.1) h.1)
breaks_one d l Style Name h k = absurd ((k.2) h.2)
breaks_one d l Style Twice h k = absurd ((k.3) h.3)
breaks_one d l Style Style h k = refl
breaks_one d l Style Limit h k = absurd ((h.4) k.4)
breaks_one d l Style NotTree h k = absurd ((h.4) k.4)
breaks_one d l Style (Over much) h k = absurd ((h.4) k.4)
breaks_one d l Style (Loop o of ot) h k = absurd ((h.4) k.4)
breaks_one d l Limit Word h k = absurd k
breaks_one d l Limit Late h k = absurd (k h.0)
breaks_one d l Limit Range h k = absurd ((k.1) h.1)
breaks_one d l Limit Name h k = absurd ((k.2) h.2)
breaks_one d l Limit Twice h k = absurd ((k.3) h.3)
breaks_one d l Limit Style h k = absurd ((k.4) h.4)
breaks_one d l Limit Limit h k = refl
breaks_one d l Limit NotTree h k = absurd ((h.5) k.5)
breaks_one d l Limit (Over much) h k = absurd ((h.5) k.5)
breaks_one d l Limit (Loop o of ot) h k = absurd ((h.5) k.5)
breaks_one d l NotTree Word h k = absurd k
breaks_one d l NotTree Late h k = absurd (k h.0)
breaks_one d l NotTree Range h k = absurd ((k.1) h.1)
breaks_one d l NotTree Name h k = absurd ((k.2) h.2)
breaks_one d l NotTree Twice h k = absurd ((k.3) h.3)
breaks_one d l NotTree Style h k = absurd ((k.4) h.4)
breaks_one d l NotTree Limit h k = absurd ((k.5) h.5)
breaks_one d l NotTree NotTree h k = refl
breaks_one d l NotTree (Over much) h k = absurd ((h.6) k.6)
breaks_one d l NotTree (Loop o of ot) h k = absurd ((h.6) k.6)
breaks_one d l (Over much) Word h k = absurd k
breaks_one d l (Over much) Late h k = absurd (k h.0)
breaks_one d l (Over much) Range h k = absurd ((k.1) h.1)
breaks_one d l (Over much) Name h k = absurd ((k.2) h.2)
breaks_one d l (Over much) Twice h k = absurd ((k.3) h.3)
breaks_one d l (Over much) Style h k = absurd ((k.4) h.4)
breaks_one d l (Over much) Limit h k = absurd ((k.5) h.5)
breaks_one d l (Over much) NotTree h k = absurd ((k.6) h.6)
breaks_one d l (Over a) (Over b) h k = excess_one d l a b h.8 k.8
breaks_one d l (Over much) (Loop o of ot) h k = absurd (h.7 k.7)
breaks_one d l (Loop g gf gt) Word h k = absurd k
breaks_one d l (Loop g gf gt) Late h k = absurd (k h.0)
breaks_one d l (Loop g gf gt) Range h k = absurd ((k.1) h.1)
breaks_one d l (Loop g gf gt) Name h k = absurd ((k.2) h.2)
breaks_one d l (Loop g gf gt) Twice h k = absurd ((k.3) h.3)
breaks_one d l (Loop g gf gt) Style h k = absurd ((k.4) h.4)
breaks_one d l (Loop g gf gt) Limit h k = absurd ((k.5) h.5)
breaks_one d l (Loop g gf gt) NotTree h k = absurd ((k.6) h.6)
breaks_one d l (Loop g gf gt) (Over much) h k = absurd (k.7 h.7)
breaks_one d l (Loop g gf gt) (Loop o of ot) h k = loop_one d l g o gf gt of ot h.9 k.9

pub fault_one : (d : Draft) (text : List ℕ) (a b : Fault) → HasFault d text a → HasFault d text b → a ≡ b
fault_one d text Limit Limit (too_long x) (too_long y) = refl
fault_one d text Limit Word (too_long x) (unread short gone) = absurd (omega arith)
fault_one d text Limit b (too_long x) (broken said _ short reads h) = absurd (omega arith)
fault_one d text Word Limit (unread short gone) (too_long y) = absurd (omega arith)
fault_one d text Word Word (unread short gone) (unread shorter also) = refl
fault_one d text Word b (unread short gone) (broken said _ shorter reads h) = absurd (no_reading (script_line_of text) said reads gone)
fault_one d text a Limit (broken said _ short reads h) (too_long y) = absurd (omega arith)
fault_one d text a Word (broken said _ short reads h) (unread shorter gone) = absurd (no_reading (script_line_of text) said reads gone)
fault_one d text a b (broken said _ short reads h) (broken other _ shorter also k) =
    let same = same_some other said (sym also ∙ reads) in
    breaks_one d said a b h (subst (λ l. BreaksFirst (Keeps d l) (Exceeds d l) (Closes d l) b) same k)

same_head : {A : Type 0} (x y : A) (xs ys : List A) → x ∷ xs ≡ y ∷ ys → (x ≡ y) × (xs ≡ ys)
same_head x y xs ys e =
    let head : x ≡ y = cc in
    let tail : xs ≡ ys = cc in
    (head, tail)

-- where two lines of one text are bad, they are one line with one fault
first_bad : (d : Draft) (xs : List (List ℕ)) (t : List ℕ) (after : List (List ℕ)) (ys : List (List ℕ)) (u : List ℕ) (behind : List (List ℕ)) (m n : Draft) (a b : Fault)
    → xs ++ t ∷ after ≡ ys ++ u ∷ behind → Leads d xs m → Leads d ys n → HasFault m t a → HasFault n u b → (length xs ≡ length ys) × (a ≡ b)
first_bad d [] t after [] u behind m n a b e l k f g =
    let same = same_head t u after behind e in
    let here : HasFault d u a = subst (λ x. HasFault d x a) same.0 (subst (λ x. HasFault x t a) l f) in
    (refl, fault_one d u a b here (subst (λ x. HasFault x u b) k g))
first_bad d [] t after (y ∷ ys) u behind m n a b e l k f g =
    let same = same_head t y after (ys ++ u ∷ behind) e in
    absurd (fault_or_follows d y a k.0 (subst (λ x. HasFault d x a) same.0 (subst (λ x. HasFault x t a) l f)) k.1)
first_bad d (x ∷ xs) t after [] u behind m n a b e l k f g =
    let same = same_head x u (xs ++ t ∷ after) behind e in
    absurd (fault_or_follows d x b l.0 (subst (λ z. HasFault d z b) (sym same.0) (subst (λ z. HasFault z u b) k g)) l.1)
first_bad d (x ∷ xs) t after (y ∷ ys) u behind m n a b e l k f g =
    let same = same_head x y (xs ++ t ∷ after) (ys ++ u ∷ behind) e in
    let next : l.0 ≡ k.0 = follows_one d y l.0 k.0 (subst (λ z. Follows d z l.0) same.0 l.1) k.1 in
    let rest = first_bad k.0 xs t after ys u behind m n a b same.1 (subst (λ z. Leads z xs m) next l.2) k.2 f g in
    (ap suc rest.0, rest.1)

pub one_bad_line_law : (bytes : List ℕ) (m n : ℕ) (a b : Fault) → IsBadLine bytes m a → IsBadLine bytes n b → OneBadLine bytes m n a b
one_bad_line_law bytes m n a b x y =
    let one = first_bad nothing x.before x.text x.after y.before y.text y.after x.lines y.lines a b (sym x.parts ∙ y.parts) x.leads y.leads x.fault y.fault in
    record { line = x.counted ∙ ap line_number one.0 ∙ sym y.counted; fault = one.1 }
