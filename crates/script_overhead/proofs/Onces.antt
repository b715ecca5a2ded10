-- Who sends stands once: at the nodes of a network, and behind the lines of a script.
use Rattle.std.proofs.Common.{◌≡◌, ℕ, suc, ◌+◌, ◌≤◌, List, [], ◌∷◌, ◌++◌, Bool, true, false, inl, inr, arith, sym, refl, ap, subst, ◌∙◌}
use Rattle.std.specs.Prelude.{map as each, not, sum_by, if◌then◌else◌}
use Rattle.std.proofs.lemmas.List.Sums.{sum_by-cons}
use Rattle.std.specs.Ordering.{eq_by_cmp}
use Rattle.rsvp_base.specs.declared.session.Sender.{Sender}
use Rattle.rsvp_base.specs.declared.session.Session.{Session}
use Rattle.rsvp_base.specs.Members.{In}
use Rattle.rsvp_base.specs.Orders.{senders as by_sender, sessions as by_session}
use Rattle.rsvp_base.specs.Table.{keys}
use Rattle.rsvp_base.proofs.Members.{any_in, in_each}
use Rattle.rsvp_base.proofs.SetLaws.{and_made}
use Rattle.rsvp_base.proofs.Tables.{tied_self}
use Rattle.router_rules.specs.Facts.{Facts, SenderKey, sender_keys}
use Rattle.tree_model.specs.Chains.{NoRepeats}
use Rattle.tree_model.specs.declared.locals.LocalSender.{LocalSender}
use Rattle.tree_model.specs.Wants.{Locals}
use Rattle.tree_model.proofs.Counts.{but, in_but, once_append}
use Rattle.network_demand.proofs.LimitLaws.{once_each, once_filter}
use Rattle.network_model.specs.Locals.{sender_at, senders_from}
use Rattle.network_model.proofs.NodeLocals.{sender_told}
use Rattle.laws_network.proofs.Hosts.{once_keys}
use Rattle.laws_scripts.proofs.Leading.{led}
use Rattle.script_grammar.specs.Adds.{Adds, is_sender, sends, with_sender}
use Rattle.script_grammar.specs.Draft.{Draft, node_number, nothing, same_session}
use Rattle.script_grammar.specs.Grammar.{Leads}
use Rattle.script_grammar.specs.declared.line.ScriptLine.{ScriptLine}
use Rattle.script_grammar.specs.declared.line.ScriptLine.TheVariants as line
use Rattle.script_words.specs.Sessions.{sender_value, session_value}

-- ---- sums
sum_but : {A : Type 0} (w : A → ℕ) (x : A) (ys : List A) (i : In x ys) → sum_by w ys ≡ w x + sum_by w (but x ys i)
sum_but w x [] i = absurd i
sum_but w x (y ∷ ys) (inl e) = let here = ap w e in omega (arith, here, sum_by-cons w y ys)
sum_but w x (y ∷ ys) (inr j) = let rest = sum_but w x ys j in omega (arith, rest, sum_by-cons w y ys, sum_by-cons w y (but x ys j))

-- a list without repeats comes to no more than one that has its members
sum_once : {A : Type 0} (w : A → ℕ) (xs ys : List A) → NoRepeats xs → ((z : A) → In z xs → In z ys) → sum_by w xs ≤ sum_by w ys
sum_once w [] ys once to = omega arith
sum_once {A} w (x ∷ xs) ys once to =
    let i : In x ys = to x (inl refl) in
    let rest = sum_once w xs (but x ys i) once.1 (λ z k. in_but x z ys i (λ e. once.0 (subst (λ (a : A). In a xs) e k)) (to z (inr k))) in
    omega (arith, rest, sum_but w x ys i, sum_by-cons w x xs)

-- two of the same members come to the same
pub sum_of_same : {A : Type 0} (w : A → ℕ) (xs ys : List A) → NoRepeats xs → NoRepeats ys → ((z : A) → In z xs → In z ys) → ((z : A) → In z ys → In z xs) → sum_by w xs ≡ sum_by w ys
sum_of_same w xs ys a b to from = let le = sum_once w xs ys a to in let ge = sum_once w ys xs b from in omega (arith, le, ge)

-- ---- at nodes
same_key : (j : ℕ) (a b : SenderKey) → sender_at j a ≡ sender_at j b → a ≡ b
same_key j a b e = λ i. ((e i).session, (e i).sender)

pub once_at_nodes : (j : ℕ) (fs : List Facts) → NoRepeats (senders_from j fs)
once_at_nodes j [] = tt
once_at_nodes j (f ∷ fs) =
    once_append (each (sender_at j) (keys f.senders)) (senders_from (suc j) fs)
    (once_each (sender_at j) (keys f.senders) (once_keys sender_keys f.senders.rows f.senders.sorted) (λ a b i k e. same_key j a b e)) (once_at_nodes (suc j) fs)
    (λ z i k.
    let here = in_each (sender_at j) z (keys f.senders) i in
    let node : z.node ≡ j = ap (λ (x : LocalSender). x.node) here.2 in
    let far = (sender_told (suc j) fs z k).node in
    omega (arith, node, far))

-- ---- behind lines
once_with : (l : Locals) (n : ℕ) (s : Session) (x : Sender) → NoRepeats l.senders → NoRepeats (with_sender l n s x).senders
once_with l n s x once = by (sends l.senders s x) refl
  where
    new : LocalSender
    new = record { node = n; session = s; sender = x }

    apart : sends l.senders s x ≡ false → (z : LocalSender) → In z l.senders → In z (new ∷ []) → ⊥
    apart off z i (inr k) = k
    apart off z i (inl e) =
        let told : is_sender s x z ≡ true =
        and_made (same_session s z.session) (eq_by_cmp by_sender.cmp x z.sender) (ap (λ (y : LocalSender). same_session s y.session) e ∙ tied_self by_session s)
        (ap (λ (y : LocalSender). eq_by_cmp by_sender.cmp x y.sender) e ∙ tied_self by_sender x) in
        let no : true ≡ false = sym (any_in (is_sender s x) z l.senders i told) ∙ off in absurd (cc)

    by : (b : Bool) → sends l.senders s x ≡ b → NoRepeats (if b then l else record l { senders = l.senders ++ new ∷ [] }).senders
    by true t = once
    by false off = once_append l.senders (new ∷ []) once ((λ i. i), tt) (apart off)

abbrev Once : Draft → Type 0
Once d = NoRepeats d.locals.senders

as_before : (d new : Draft) → Once d → new.locals.senders ≡ d.locals.senders → Once new
as_before d new once same = subst (λ (xs : List LocalSender). NoRepeats xs) (sym same) once

abbrev senders_of : Draft → List LocalSender
senders_of d = d.locals.senders

by_line : (d : Draft) (said : ScriptLine) (new : Draft) → Once d → Adds d said new → Once new
by_line d line.Skipped new once adds = as_before d new once (ap senders_of adds)
by_line d (line.Period ms) new once adds = as_before d new once (ap senders_of adds)
by_line d (line.Seed n) new once adds = as_before d new once (ap senders_of adds)
by_line d (line.Node name) new once adds = as_before d new once (ap senders_of adds)
by_line d (line.End l) new once adds = as_before d new once (ap senders_of adds)
by_line d (line.Latency l) new once adds = as_before d new once (ap senders_of adds)
by_line d (line.Link names) new once adds = as_before d new once (ap senders_of adds)
by_line d (line.Hop l) new once adds = as_before d new once (ap senders_of adds)
by_line d (line.StalePath l) new once adds = as_before d new once (ap senders_of adds)
by_line d (line.StaleResv l) new once adds = as_before d new once (ap senders_of adds)
by_line d (line.StaleHopWall l) new once adds = as_before d new once (ap senders_of adds)
by_line d (line.StaleSenderWall l) new once adds = as_before d new once (ap senders_of adds)
by_line d (line.Send l) new once adds =
    subst Once (sym adds) (once_with d.locals (node_number d l.node) (session_value l.session) (sender_value l.sender) once)
by_line d (line.Drop l) new once adds =
    subst Once (sym adds) (once_filter (λ e. not (is_sender (session_value l.session) (sender_value l.sender) e)) d.locals.senders once)
by_line d (line.Advert l) new once adds = as_before d new once (ap senders_of adds)
by_line d (line.Want l) new once adds = as_before d new once (ap senders_of adds)
by_line d (line.Quit l) new once adds = as_before d new once (ap senders_of adds)
by_line d (line.Wait ms) new once adds = as_before d new once (ap senders_of adds)
by_line d (line.Pass n) new once adds = as_before d new once (ap senders_of adds)
by_line d (line.Deliver k) new once adds = as_before d new once (ap senders_of adds)
by_line d (line.Lose k) new once adds = as_before d new once (ap senders_of adds)
by_line d (line.Copy k) new once adds = as_before d new once (ap senders_of adds)
by_line d (line.Clear node) new once adds = as_before d new once (ap senders_of adds)
by_line d (line.Rounds n) new once adds = as_before d new once (ap senders_of adds)
by_line d (line.Trace on) new once adds = as_before d new once (ap senders_of adds)
by_line d line.Report new once adds = as_before d new once (ap senders_of adds)
by_line d (line.ReportEnd end) new once adds = as_before d new once (ap senders_of adds)
by_line d line.Flags new once adds = as_before d new once (ap senders_of adds)
by_line d line.Adverts new once adds = as_before d new once (ap senders_of adds)
by_line d (line.Inject l) new once adds = as_before d new once (ap senders_of adds.2)
by_line d (line.Reroute l) new once adds = as_before d new once (ap senders_of adds)

pub once_behind : (lines : List (List ℕ)) (d : Draft) → Leads nothing lines d → NoRepeats d.locals.senders
once_behind lines d leads = led Once (λ a text new once f. by_line a f.said new once f.adds) lines nothing d tt leads
