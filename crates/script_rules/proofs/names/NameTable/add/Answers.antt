use Rattle.std.proofs.Common.{◌≡◌, [], ◌∷◌, ◌++◌, List, ℕ, false, None, if◌then◌else◌, map, sym, ap, ◌∙◌}
use Rattle.std.proofs.lemmas.List.{map-append}
use Rattle.std.specs.List.{list_any}
use Rattle.std.specs.Prelude.{position}
use Rattle.std.specs.Str.{bytes_eq}
use Rattle.script_grammar.specs.Draft.{place_of}
use Rattle.script_rules.proofs.Positions.{position-map, list_any-no_position}
use Rattle.script_rules.proofs.names.NameTable.add.Goals as goal

pub returns-clause-ok : goal.returns-clause-ok
returns-clause-ok c =
    let ks = c.self.inside.names.keys in
    let v = c.in_ok-name.name in
    let is : v.items ≡ c.args.name.now = c.in_ok-name.ensures.items_if_clones_equal (λ x y e. e) in
    let gone : position (λ k. bytes_eq c.args.name.now k.items) ks ≡ None = sym (position-map (bytes_eq c.args.name.now) (λ k. k.items) ks)
    ∙ ap (λ names. place_of names c.args.name.now) c.self.view_is ∙ c.requires in
    let absent : list_any (λ k. bytes_eq v.items k.items) ks ≡ false = ap (λ (name : List ℕ). list_any (λ k. bytes_eq name k.items) ks) is
    ∙ list_any-no_position (λ k. bytes_eq c.args.name.now k.items) ks gone in
    ap (map (λ k. k.items)) c.in_ok-insert.ensures.keys
    ∙ ap (λ b. map (λ k. k.items) (if b then ks else ks ++ v ∷ [])) absent
    ∙ map-append (λ k. k.items) ks (v ∷ [])
    ∙ ap (λ (name : List ℕ). map (λ k. k.items) ks ++ name ∷ []) is
    ∙ ap (λ (names : List (List ℕ)). names ++ c.args.name.now ∷ []) c.self.view_is
