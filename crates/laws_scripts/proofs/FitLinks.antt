-- Each line of a script keeps that each link has two to eight ends.
use Rattle.std.proofs.Common.{◌≡◌, ℕ, List, [], ◌∷◌, length, ⊎_elim, arith, sym, ap, subst, ◌∙◌}
use Rattle.rsvp_base.specs.Members.{In}
use Rattle.rsvp_base.proofs.Members.{in_append}
use Rattle.script_words.specs.Lines.{text_lines}
use Rattle.tree_routing.specs.Answers.{rising}
use Rattle.tree_routing.proofs.LinkLaws.{rising_length}
use Rattle.network_model.specs.Runs.{Plan}
use Rattle.script_grammar.specs.Adds.{Adds, link_value}
use Rattle.script_grammar.specs.declared.line.ScriptLine.{ScriptLine}
use Rattle.script_grammar.specs.declared.line.ScriptLine.TheVariants as line
use Rattle.script_grammar.specs.Draft.{Draft, nothing, end_number}
use Rattle.script_grammar.specs.Grammar.{Leads}
use Rattle.laws_scripts.specs.Networks.{HasFitLinks}
use Rattle.laws_scripts.specs.Scripts.{EachLinkHasItsEnds}
use Rattle.laws_scripts.proofs.Leading.{led}
use Rattle.laws_scripts.proofs.Words.{Formed, formed}
use Rattle.std.proofs.lemmas.List.{length-map}

pub FitLinks : Draft → Type 0
FitLinks d = HasFitLinks d.net

pub fit_links : (d : Draft) → FitLinks d → HasFitLinks d.net
unfolding FitLinks
fit_links d h = h

same : (d new : Draft) → FitLinks d → new.net.links ≡ d.net.links → FitLinks new
unfolding FitLinks
same d new h links = λ l i. h l (subst (λ (z : List (List ℕ)). In l z) links i)

pub fit_links_line : (d : Draft) (said : ScriptLine) (new : Draft) → FitLinks d → Formed said → Adds d said new → FitLinks new
unfolding FitLinks
fit_links_line d (line.Link names) new h form adds =
    λ l i.
    ⊎_elim (λ (j : In l d.net.links). h l j)
    (λ (j : In l (rising (link_value d names) ∷ [])).
    ⊎_elim
    (λ (e : l ≡ rising (link_value d names)).
    let size : length l ≡ length names = ap length e ∙ rising_length (link_value d names) ∙ length-map names (end_number d) in
    let some = form.0 in
    let few = form.1 in
    (omega (arith, size, some), omega (arith, size, few)))
    (λ (e : ⊥). absurd e) j)
    (in_append l d.net.links (rising (link_value d names) ∷ []) (subst (λ (z : List (List ℕ)). In l z) (ap (λ (z : Draft). z.net.links) adds) i))
fit_links_line d (line.Inject l) new h form adds = same d new h (ap (λ (z : Draft). z.net.links) adds.2)
fit_links_line d _ new h form adds = same d new h (ap (λ (z : Draft). z.net.links) adds)

pub fit_links_first : FitLinks nothing
unfolding FitLinks
fit_links_first = λ l i. absurd i

-- behind lines that may begin a script
pub links_behind : (lines : List (List ℕ)) (d : Draft) → Leads nothing lines d → HasFitLinks d.net
unfolding FitLinks
links_behind lines d leads = led FitLinks (λ d text new g f. fit_links_line d f.said new g (formed text f.said f.reads) f.adds) lines nothing d fit_links_first leads

pub each_link_has_its_ends : EachLinkHasItsEnds
each_link_has_its_ends bytes p is = subst HasFitLinks (sym (ap (λ (z : Plan). z.net) is.says)) (links_behind (text_lines bytes) is.lines is.leads)
