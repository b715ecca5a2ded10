-- Each line of a script keeps that there is a period, and that each end has the address of a host.
use Rattle.std.proofs.Common.{◌≡◌, ℕ, zero, suc, ◌≤◌, ◌<◌, List, [], ◌∷◌, Bool, true, false, Option, inl, inr, ⊎_elim, arith, refl, sym, ap, subst, ◌∙◌}
use Rattle.std.specs.Prelude.{◌/◌, nat_le, nat_lt, unwrap_or}
use Rattle.std.proofs.lemmas.Bool.{leb-true, ltb-true}
use Rattle.rsvp_base.specs.declared.addr.Addr.{Addr}
use Rattle.rsvp_base.specs.Members.{In}
use Rattle.rsvp_base.proofs.Fronts.{got_in}
use Rattle.rsvp_base.proofs.Members.{in_append}
use Rattle.rsvp_base.proofs.SetLaws.{and_both}
use Rattle.script_words.specs.Addresses.{IsHost, addr_value}
use Rattle.script_words.specs.Lines.{text_lines}
use Rattle.tree_model.specs.declared.hops.End.{End}
use Rattle.tree_routing.specs.Answers.{ends_with_latency}
use Rattle.network_model.specs.Links.{is_group}
use Rattle.script_grammar.specs.Adds.{Adds}
use Rattle.script_grammar.specs.declared.line.ScriptLine.{ScriptLine}
use Rattle.script_grammar.specs.declared.line.ScriptLine.TheVariants as line
use Rattle.script_grammar.specs.Draft.{Draft, end_number, nothing, period_of, plan_of, usual_period}
use Rattle.script_grammar.specs.Grammar.{Leads}
use Rattle.script_grammar.specs.Rules.{Keeps, KeepsAll}
use Rattle.script_grammar.specs.Values.{end_value}
use Rattle.laws_scripts.specs.Scripts.{EachScriptHasHosts, HasHosts}
use Rattle.laws_scripts.proofs.Leading.{led}

record Hosted (d : Draft) : Type 0 where
  period : 1 ≤ period_of d / 4
  hosts : (x : End) → In x d.net.ends → is_group x.iface.addr ≡ false

no_group : (a : Addr) → IsHost a → is_group a ≡ false
no_group a h = by (is_group a) refl
  where
    by : (b : Bool) → is_group a ≡ b → b ≡ false
    by true e =
        let r = and_both (nat_le 3758096384 a.0) (nat_lt a.0 4026531840) e in
        let from : 3758096384 ≤ a.0 = leb-true 3758096384 a.0 r.0 in
        let below : a.0 < 4026531840 = ltb-true a.0 4026531840 r.1 in
        absurd (h.no_group (record { from = from; to = omega (arith, below) }))
    by false e = refl

-- a line that changes neither the ends nor the period
same : (d new : Draft) → Hosted d → new.net.ends ≡ d.net.ends → new.period ≡ d.period → Hosted new
same d new h ends period = record {
  period = subst (λ (z : Option ℕ). 1 ≤ unwrap_or z usual_period / 4) (sym period) h.period;
  hosts = λ x i. h.hosts x (subst (λ (z : List End). In x z) ends i);
}

-- an end that has another latency had its address and its capacity
pub latency_was : (xs : List End) (e latency : ℕ) (x : End) → In x (ends_with_latency xs e latency)
    → (y : End) × In y xs × (x.iface.addr ≡ y.iface.addr) × (x.iface.capacity ≡ y.iface.capacity)
latency_was [] e latency x i = absurd i
latency_was (y ∷ ys) zero latency x i =
    ⊎_elim
    (λ (same : x ≡ record y { iface = record y.iface { latency = latency } }). (y, inl refl, ap (λ (z : End). z.iface.addr) same, ap (λ (z : End). z.iface.capacity) same))
    (λ (j : In x ys). (x, inr j, refl, refl)) i
latency_was (y ∷ ys) (suc e) latency x i =
    ⊎_elim (λ (same : x ≡ y). (y, inl refl, ap (λ (z : End). z.iface.addr) same, ap (λ (z : End). z.iface.capacity) same))
    (λ (j : In x (ends_with_latency ys e latency)). let r = latency_was ys e latency x j in (r.0, inr r.1, r.2, r.3)) i

by_line : (d : Draft) (said : ScriptLine) (new : Draft) → Hosted d → KeepsAll (Keeps d said) → Adds d said new → Hosted new
by_line d (line.Period ms) new h rules adds =
    let from = rules.in_range.from in
    subst Hosted (sym adds) (record { period = omega (arith, from); hosts = h.hosts })
by_line d (line.End l) new h rules adds = record {
  period = subst (λ (z : Option ℕ). 1 ≤ unwrap_or z usual_period / 4) (sym (ap (λ (z : Draft). z.period) adds)) h.period;
  hosts = λ x i.
      ⊎_elim (λ (j : In x d.net.ends). h.hosts x j)
      (λ (j : In x (end_value d l ∷ [])).
      ⊎_elim (λ (e : x ≡ end_value d l). ap (λ (z : End). is_group z.iface.addr) e ∙ no_group (addr_value l.addr) rules.in_range.host) (λ (e : ⊥). absurd e) j)
      (in_append x d.net.ends (end_value d l ∷ []) (subst (λ (z : List End). In x z) (ap (λ (z : Draft). z.net.ends) adds) i));
}
by_line d (line.Latency l) new h rules adds = record {
  period = subst (λ (z : Option ℕ). 1 ≤ unwrap_or z usual_period / 4) (sym (ap (λ (z : Draft). z.period) adds)) h.period;
  hosts = λ x i.
      let r = latency_was d.net.ends (end_number d l.end) l.latency x (subst (λ (z : List End). In x z) (ap (λ (z : Draft). z.net.ends) adds) i) in
      ap is_group r.2 ∙ h.hosts r.0 r.1;
}
by_line d line.Skipped new h rules adds = same d new h (ap (λ (z : Draft). z.net.ends) adds) (ap (λ (z : Draft). z.period) adds)
by_line d (line.Seed n) new h rules adds = same d new h (ap (λ (z : Draft). z.net.ends) adds) (ap (λ (z : Draft). z.period) adds)
by_line d (line.Node name) new h rules adds = same d new h (ap (λ (z : Draft). z.net.ends) adds) (ap (λ (z : Draft). z.period) adds)
by_line d (line.Link names) new h rules adds = same d new h (ap (λ (z : Draft). z.net.ends) adds) (ap (λ (z : Draft). z.period) adds)
by_line d (line.Hop l) new h rules adds = same d new h (ap (λ (z : Draft). z.net.ends) adds) (ap (λ (z : Draft). z.period) adds)
by_line d (line.StalePath l) new h rules adds = same d new h (ap (λ (z : Draft). z.net.ends) adds) (ap (λ (z : Draft). z.period) adds)
by_line d (line.StaleResv l) new h rules adds = same d new h (ap (λ (z : Draft). z.net.ends) adds) (ap (λ (z : Draft). z.period) adds)
by_line d (line.StaleHopWall l) new h rules adds = same d new h (ap (λ (z : Draft). z.net.ends) adds) (ap (λ (z : Draft). z.period) adds)
by_line d (line.StaleSenderWall l) new h rules adds = same d new h (ap (λ (z : Draft). z.net.ends) adds) (ap (λ (z : Draft). z.period) adds)
by_line d (line.Send l) new h rules adds = same d new h (ap (λ (z : Draft). z.net.ends) adds) (ap (λ (z : Draft). z.period) adds)
by_line d (line.Drop l) new h rules adds = same d new h (ap (λ (z : Draft). z.net.ends) adds) (ap (λ (z : Draft). z.period) adds)
by_line d (line.Advert l) new h rules adds = same d new h (ap (λ (z : Draft). z.net.ends) adds) (ap (λ (z : Draft). z.period) adds)
by_line d (line.Want l) new h rules adds = same d new h (ap (λ (z : Draft). z.net.ends) adds) (ap (λ (z : Draft). z.period) adds)
by_line d (line.Quit l) new h rules adds = same d new h (ap (λ (z : Draft). z.net.ends) adds) (ap (λ (z : Draft). z.period) adds)
by_line d (line.Wait ms) new h rules adds = same d new h (ap (λ (z : Draft). z.net.ends) adds) (ap (λ (z : Draft). z.period) adds)
by_line d (line.Pass n) new h rules adds = same d new h (ap (λ (z : Draft). z.net.ends) adds) (ap (λ (z : Draft). z.period) adds)
by_line d (line.Deliver k) new h rules adds = same d new h (ap (λ (z : Draft). z.net.ends) adds) (ap (λ (z : Draft). z.period) adds)
by_line d (line.Lose k) new h rules adds = same d new h (ap (λ (z : Draft). z.net.ends) adds) (ap (λ (z : Draft). z.period) adds)
by_line d (line.Copy k) new h rules adds = same d new h (ap (λ (z : Draft). z.net.ends) adds) (ap (λ (z : Draft). z.period) adds)
by_line d (line.Clear node) new h rules adds = same d new h (ap (λ (z : Draft). z.net.ends) adds) (ap (λ (z : Draft). z.period) adds)
by_line d (line.Rounds n) new h rules adds = same d new h (ap (λ (z : Draft). z.net.ends) adds) (ap (λ (z : Draft). z.period) adds)
by_line d (line.Trace on) new h rules adds = same d new h (ap (λ (z : Draft). z.net.ends) adds) (ap (λ (z : Draft). z.period) adds)
by_line d line.Report new h rules adds = same d new h (ap (λ (z : Draft). z.net.ends) adds) (ap (λ (z : Draft). z.period) adds)
by_line d (line.ReportEnd end) new h rules adds = same d new h (ap (λ (z : Draft). z.net.ends) adds) (ap (λ (z : Draft). z.period) adds)
by_line d line.Flags new h rules adds = same d new h (ap (λ (z : Draft). z.net.ends) adds) (ap (λ (z : Draft). z.period) adds)
by_line d line.Adverts new h rules adds = same d new h (ap (λ (z : Draft). z.net.ends) adds) (ap (λ (z : Draft). z.period) adds)
by_line d (line.Inject l) new h rules adds = same d new h (ap (λ (z : Draft). z.net.ends) adds.2) (ap (λ (z : Draft). z.period) adds.2)
by_line d (line.Reroute l) new h rules adds = same d new h (ap (λ (z : Draft). z.net.ends) adds) (ap (λ (z : Draft). z.period) adds)

at_first : Hosted nothing
at_first = record { period = omega arith; hosts = λ x i. absurd i }

-- behind lines that may begin a script
pub hosts_behind : (lines : List (List ℕ)) (d : Draft) → Leads nothing lines d → HasHosts (plan_of d)
hosts_behind lines d leads =
    let h = led Hosted (λ d text new g f. by_line d f.said new g f.valid f.adds) lines nothing d at_first leads in
    record { period = h.period; hosts = λ e x at. h.hosts x (got_in d.net.ends e x at) }

pub each_script_has_hosts : EachScriptHasHosts
each_script_has_hosts bytes p is = subst HasHosts (sym is.says) (hosts_behind (text_lines bytes) is.lines is.leads)
