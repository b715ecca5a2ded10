-- What the lines of a script say of its ends: their names are words, and their capacities are small.
use Rattle.std.proofs.Common.{◌≡◌, ℕ, ◌<◌, ◌^◌, List, [], ◌∷◌, length, Bool, true, false, ⊎_elim, arith, refl, sym, ap, subst, ◌∙◌, lt-ltb}
use Rattle.std.specs.Prelude.{◌&&◌, ◌||◌, ◌==◌, nat_le, slice_index}
use Rattle.std.specs.List.{list_all}
use Rattle.std.proofs.lemmas.Bool.{eqb-true, leb-true}
use Rattle.rsvp_base.specs.Members.{In}
use Rattle.rsvp_base.proofs.Fronts.{got_in}
use Rattle.rsvp_base.proofs.Members.{in_append}
use Rattle.rsvp_base.proofs.SetLaws.{and_both}
use Rattle.rsvp_base.specs.EndNames.{is_digit, is_lower_case, is_name, is_name_byte}
use Rattle.network_model.specs.TreeModel.declared.hops.End.{End}
use Rattle.script_grammar.specs.Adds.{Adds}
use Rattle.script_grammar.specs.Draft.{Draft, end_number, nothing}
use Rattle.script_grammar.specs.Grammar.{Leads}
use Rattle.script_grammar.specs.Rules.{Keeps, KeepsAll}
use Rattle.script_grammar.specs.Values.{end_value}
use Rattle.script_grammar.specs.declared.line.ScriptLine.{ScriptLine}
use Rattle.script_grammar.specs.declared.line.ScriptLine.TheVariants as line
use Rattle.laws_scripts.proofs.HostLines.{latency_was}
use Rattle.laws_scripts.proofs.Leading.{led}
use Rattle.laws_scripts.proofs.Words.{Formed, formed}
use Rattle.laws_texts.proofs.Bytes.{is_visible, weaker}
use Rattle.laws_texts.proofs.Heads.{IsWord}
use Rattle.laws_texts.proofs.Reports.{AreNamed}

-- ---- a name is a word
byte_seen : (c : ℕ) → is_name_byte c ≡ true → is_visible c ≡ true
byte_seen c h = by (is_lower_case c) (is_digit c) (c == 95) refl refl refl h
  where
    by : (a b d : Bool) → is_lower_case c ≡ a → is_digit c ≡ b → c == 95 ≡ d → (a || (b || d)) ≡ true → is_visible c ≡ true
    by true b d e f g h = let from = leb-true 97 c (and_both (nat_le 97 c) (nat_le c 122) e).0 in lt-ltb 32 c (omega (arith, from))
    by false true d e f g h = let from = leb-true 48 c (and_both (nat_le 48 c) (nat_le c 57) f).0 in lt-ltb 32 c (omega (arith, from))
    by false false true e f g h = let is = eqb-true c 95 g in lt-ltb 32 c (omega (arith, is))
    by false false false e f g h = absurd (cc)

pub name_word : (name : List ℕ) → is_name name ≡ true → IsWord name
name_word [] h = absurd (let no : false ≡ true = h in cc)
name_word (c ∷ cs) h =
    let b = and_both (nat_le (length (c ∷ cs)) 16) (is_lower_case (slice_index (c ∷ cs) 0) && list_all is_name_byte (c ∷ cs)) h in
    let bytes = and_both (is_lower_case (slice_index (c ∷ cs) 0)) (list_all is_name_byte (c ∷ cs)) b.1 in
    (omega arith, weaker is_name_byte is_visible byte_seen (c ∷ cs) bytes.1)

-- ---- the ends behind some lines
record Named (d : Draft) : Type 0 where
  names : (name : List ℕ) → In name d.names → is_name name ≡ true
  small : (x : End) → In x d.net.ends → x.iface.capacity < 2 ^ 46

same : (d new : Draft) → Named d → new.names ≡ d.names → new.net.ends ≡ d.net.ends → Named new
same d new h names ends = record {
  names = λ name i. h.names name (subst (λ (z : List (List ℕ)). In name z) names i);
  small = λ x i. h.small x (subst (λ (z : List End). In x z) ends i);
}

by_line : (d : Draft) (said : ScriptLine) (new : Draft) → Named d → Formed said → KeepsAll (Keeps d said) → Adds d said new → Named new
by_line d (line.End l) new h formed rules adds = record {
  names = λ name i.
      ⊎_elim (λ (j : In name d.names). h.names name j) (λ (j : In name (l.name ∷ [])). ⊎_elim (λ (e : name ≡ l.name). ap is_name e ∙ formed) (λ (e : ⊥). absurd e) j)
      (in_append name d.names (l.name ∷ []) (subst (λ (z : List (List ℕ)). In name z) (ap (λ (z : Draft). z.names) adds) i));
  small = λ x i.
      ⊎_elim (λ (j : In x d.net.ends). h.small x j)
      (λ (j : In x (end_value d l ∷ [])). ⊎_elim (λ (e : x ≡ end_value d l). subst (λ (z : End). z.iface.capacity < 2 ^ 46) (sym e) rules.in_range.capacity) (λ (e : ⊥). absurd e) j)
      (in_append x d.net.ends (end_value d l ∷ []) (subst (λ (z : List End). In x z) (ap (λ (z : Draft). z.net.ends) adds) i));
}
by_line d (line.Latency l) new h formed rules adds = record {
  names = λ name i. h.names name (subst (λ (z : List (List ℕ)). In name z) (ap (λ (z : Draft). z.names) adds) i);
  small = λ x i.
      let r = latency_was d.net.ends (end_number d l.end) l.latency x (subst (λ (z : List End). In x z) (ap (λ (z : Draft). z.net.ends) adds) i) in
      subst (λ (c : ℕ). c < 2 ^ 46) (sym r.3) (h.small r.0 r.1);
}
by_line d (line.Inject l) new h formed rules adds = same d new h (ap (λ (z : Draft). z.names) adds.2) (ap (λ (z : Draft). z.net.ends) adds.2)
by_line d said new h formed rules adds = same d new h (ap (λ (z : Draft). z.names) adds) (ap (λ (z : Draft). z.net.ends) adds)

pub named_behind : (lines : List (List ℕ)) (d : Draft) → Leads nothing lines d → AreNamed d.names d.net.ends
named_behind lines d leads =
    let first : Named nothing = record { names = λ name i. absurd i; small = λ x i. absurd i } in
    let h = led Named (λ d text new g f. by_line d f.said new g (formed text f.said f.reads) f.valid f.adds) lines nothing d first leads in
    record { words = λ e name at. name_word name (h.names name (got_in d.names e name at)); small = λ e x at. h.small x (got_in d.net.ends e x at) }
