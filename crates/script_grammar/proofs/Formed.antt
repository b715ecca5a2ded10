-- Words of the kinds of lines that have a field for each word, or names of ends.
use Rattle.std.proofs.Common.{◌≡◌, ◌∙◌, ℕ, ◌<◌, ◌+◌, ◌≤◌, ◌%◌, suc, zero, List, [], ◌∷◌, Bool, true, false, ◌&&◌, ◌||◌, ◌==◌, nat_le, Option, None, Some, is_none, is_some, length, refl}
use Rattle.std.proofs.Common.{sym, arith, codes, if◌then◌else◌}
use Rattle.std.specs.Str.{bytes_eq}
use Rattle.script_words.specs.Steps.{◌>>=◌, each_of}
use Rattle.script_words.specs.Numbers.{number_of}
use Rattle.rsvp_base.specs.EndNames.{is_name, name_of}
use Rattle.script_words.specs.Addresses.{quad_of}
use Rattle.script_words.specs.Sessions.{session_of, sender_of}
use Rattle.script_words.specs.Flows.{flow_of}
use Rattle.script_grammar.specs.LineKinds.{bytes_of, numbered, pairs_of, trace_line, report_line, pass_line, flags_line, adverts_line, link_line, reroute_line, period_line, seed_line, node_line}
use Rattle.script_grammar.specs.LineKinds.{end_line, latency_line, hop_line, path_of, stale_path_line, send_line, drop_line, advert_line, quit_line, clear_line, inject_line}
use Rattle.script_grammar.specs.declared.line.ScriptLine.TheVariants as line
use Rattle.script_grammar.specs.FirstWords.{unformed_from}
use Rattle.script_grammar.specs.Kinds.{field_at}
use Rattle.script_grammar.specs.KindLaws.{are_formed}
use Rattle.script_grammar.specs.declared.field.Field.TheVariants as field
use Rattle.script_grammar.specs.declared.kind.Kind.{Kind}
use Rattle.script_grammar.specs.declared.kind.Kind.TheVariants as kind

-- ---- one more word
-- what is read of it, and what is said by that and the words behind; b: it has its form; r: the first place behind that has not
pub formed : {A B : Type 0} (o : Option A) (f : A → Option B) (b : Bool) (r : Option ℕ) (p : ℕ) → is_some o ≡ b → ((x : A) → is_some (f x) ≡ is_none r)
    → is_some (o >>= f) ≡ is_none (if b then r else Some p)
formed None f true r p has rest = absurd (cc)
formed None f false r p has rest = refl
formed (Some x) f true r p has rest = rest x
formed (Some x) f false r p has rest = absurd (cc)

pub some_where : {A : Type 0} (b : Bool) (x : A) → is_some (if b then Some x else None) ≡ b
some_where true x = refl
some_where false x = refl

-- what is a name is read as one
pub named : (word : List ℕ) → is_some (name_of word) ≡ is_name word
named word = some_where (is_name word) word

pub said_of : {A B : Type 0} (o : Option A) (f : A → B) → is_some (o >>= (λ x. Some (f x))) ≡ is_some o
said_of None f = refl
said_of (Some x) f = refl

-- a word behind is not of its form
pub still_wrong : (b : Bool) (r : Option ℕ) (p : ℕ) → false ≡ is_none r → false ≡ is_none (if b then r else Some p)
still_wrong true r p wrong = wrong
still_wrong false r p wrong = refl

pub none_of : (a b : Bool) → false ≡ b → false ≡ (a && b)
none_of true b wrong = wrong
none_of false b wrong = refl

-- too many words
pub apart : (n m : ℕ) → n < m → (m == n) ≡ false
apart n m more = grind arith

pub longer : (n m : ℕ) (b : Bool) → n < m → false ≡ ((m == n) && b)
longer n m b more = grind arith

over : (n m : ℕ) (b : Bool) → n < m → false ≡ (nat_le m n && b)
over n m b more = grind arith

-- ---- kinds that have a field for each word
pub period_formed : (words : List (List ℕ)) → is_some (period_line words) ≡ are_formed (Some kind.Period) words
unfolding period_line
period_formed (ms ∷ []) =
    formed (number_of ms) _ _ _ _ refl (λ _. refl)
period_formed (ms ∷ another ∷ more) =
    longer 1 (length (ms ∷ another ∷ more)) _ (omega arith)
period_formed _ = refl

pub seed_formed : (words : List (List ℕ)) → is_some (seed_line words) ≡ are_formed (Some kind.Seed) words
unfolding seed_line
seed_formed (seed ∷ []) =
    formed (number_of seed) _ _ _ _ refl (λ _. refl)
seed_formed (seed ∷ another ∷ more) =
    longer 1 (length (seed ∷ another ∷ more)) _ (omega arith)
seed_formed _ = refl

pub node_formed : (words : List (List ℕ)) → is_some (node_line words) ≡ are_formed (Some kind.Node) words
unfolding node_line
node_formed (name ∷ []) =
    formed (name_of name) _ _ _ _ (named name) (λ _. refl)
node_formed (name ∷ another ∷ more) =
    longer 1 (length (name ∷ another ∷ more)) _ (omega arith)
node_formed _ = refl

pub end_formed : (words : List (List ℕ)) → is_some (end_line words) ≡ are_formed (Some kind.End) words
unfolding end_line
end_formed (name ∷ node ∷ addr ∷ capacity ∷ mtu ∷ []) =
    formed (name_of name) _ _ _ _ (named name) (λ _.
    formed (name_of node) _ _ _ _ (named node) (λ _.
    formed (quad_of addr) _ _ _ _ refl (λ _.
    formed (number_of capacity) _ _ _ _ refl (λ _.
    formed (number_of mtu) _ _ _ _ refl (λ _. refl)))))
end_formed (name ∷ node ∷ addr ∷ capacity ∷ mtu ∷ another ∷ more) =
    longer 5 (length (name ∷ node ∷ addr ∷ capacity ∷ mtu ∷ another ∷ more)) _ (omega arith)
end_formed _ = refl

pub latency_formed : (words : List (List ℕ)) → is_some (latency_line words) ≡ are_formed (Some kind.Latency) words
unfolding latency_line
latency_formed (end ∷ latency ∷ []) =
    formed (name_of end) _ _ _ _ (named end) (λ _.
    formed (number_of latency) _ _ _ _ refl (λ _. refl))
latency_formed (end ∷ latency ∷ another ∷ more) =
    longer 2 (length (end ∷ latency ∷ another ∷ more)) _ (omega arith)
latency_formed _ = refl

pub hop_formed : (words : List (List ℕ)) → is_some (hop_line words) ≡ are_formed (Some kind.Hop) words
unfolding hop_line
hop_formed (group ∷ source ∷ from ∷ to ∷ []) =
    formed (quad_of group) _ _ _ _ refl (λ _.
    formed (quad_of source) _ _ _ _ refl (λ _.
    formed (name_of from) _ _ _ _ (named from) (λ _.
    formed (name_of to) _ _ _ _ (named to) (λ _. refl))))
hop_formed (group ∷ source ∷ from ∷ to ∷ another ∷ more) =
    longer 4 (length (group ∷ source ∷ from ∷ to ∷ another ∷ more)) _ (omega arith)
hop_formed _ = refl

pub stale_path_formed : (words : List (List ℕ)) → is_some (stale_path_line words) ≡ are_formed (Some kind.StalePath) words
unfolding stale_path_line path_of
stale_path_formed (node ∷ session ∷ sender ∷ end ∷ addr ∷ flow ∷ left ∷ []) =
    formed (name_of node) _ _ _ _ (named node) (λ _.
    formed (session_of session) _ _ _ _ refl (λ _.
    formed (sender_of sender) _ _ _ _ refl (λ _.
    formed (name_of end) _ _ _ _ (named end) (λ _.
    formed (quad_of addr) _ _ _ _ refl (λ _.
    formed (flow_of flow) _ _ _ _ refl (λ _.
    formed (number_of left) _ _ _ _ refl (λ _. refl)))))))
stale_path_formed (node ∷ session ∷ sender ∷ end ∷ addr ∷ flow ∷ left ∷ another ∷ more) =
    longer 7 (length (node ∷ session ∷ sender ∷ end ∷ addr ∷ flow ∷ left ∷ another ∷ more)) _ (omega arith)
stale_path_formed _ = refl

pub send_formed : (words : List (List ℕ)) → is_some (send_line words) ≡ are_formed (Some kind.Send) words
unfolding send_line
send_formed (node ∷ session ∷ sender ∷ flow ∷ []) =
    formed (name_of node) _ _ _ _ (named node) (λ _.
    formed (session_of session) _ _ _ _ refl (λ _.
    formed (sender_of sender) _ _ _ _ refl (λ _.
    formed (flow_of flow) _ _ _ _ refl (λ _. refl))))
send_formed (node ∷ session ∷ sender ∷ flow ∷ another ∷ more) =
    longer 4 (length (node ∷ session ∷ sender ∷ flow ∷ another ∷ more)) _ (omega arith)
send_formed _ = refl

pub drop_formed : (words : List (List ℕ)) → is_some (drop_line words) ≡ are_formed (Some kind.Drop) words
unfolding drop_line
drop_formed (node ∷ session ∷ sender ∷ []) =
    formed (name_of node) _ _ _ _ (named node) (λ _.
    formed (session_of session) _ _ _ _ refl (λ _.
    formed (sender_of sender) _ _ _ _ refl (λ _. refl)))
drop_formed (node ∷ session ∷ sender ∷ another ∷ more) =
    longer 3 (length (node ∷ session ∷ sender ∷ another ∷ more)) _ (omega arith)
drop_formed _ = refl

pub advert_formed : (words : List (List ℕ)) → is_some (advert_line words) ≡ are_formed (Some kind.Advert) words
unfolding advert_line
advert_formed (node ∷ session ∷ sender ∷ []) =
    formed (name_of node) _ _ _ _ (named node) (λ _.
    formed (session_of session) _ _ _ _ refl (λ _.
    formed (sender_of sender) _ _ _ _ refl (λ _. refl)))
advert_formed (node ∷ session ∷ sender ∷ another ∷ more) =
    longer 3 (length (node ∷ session ∷ sender ∷ another ∷ more)) _ (omega arith)
advert_formed _ = refl

pub quit_formed : (words : List (List ℕ)) → is_some (quit_line words) ≡ are_formed (Some kind.Quit) words
unfolding quit_line
quit_formed (node ∷ session ∷ []) =
    formed (name_of node) _ _ _ _ (named node) (λ _.
    formed (session_of session) _ _ _ _ refl (λ _. refl))
quit_formed (node ∷ session ∷ another ∷ more) =
    longer 2 (length (node ∷ session ∷ another ∷ more)) _ (omega arith)
quit_formed _ = refl

pub clear_formed : (words : List (List ℕ)) → is_some (clear_line words) ≡ are_formed (Some kind.Clear) words
unfolding clear_line
clear_formed (node ∷ []) =
    formed (name_of node) _ _ _ _ (named node) (λ _. refl)
clear_formed (node ∷ another ∷ more) =
    longer 1 (length (node ∷ another ∷ more)) _ (omega arith)
clear_formed _ = refl

pub wait_formed : (words : List (List ℕ)) → is_some (numbered line.Wait words) ≡ are_formed (Some kind.Wait) words
wait_formed (ms ∷ []) =
    formed (number_of ms) _ _ _ _ refl (λ _. refl)
wait_formed (ms ∷ another ∷ more) =
    longer 1 (length (ms ∷ another ∷ more)) _ (omega arith)
wait_formed _ = refl

pub rounds_formed : (words : List (List ℕ)) → is_some (numbered line.Rounds words) ≡ are_formed (Some kind.Rounds) words
rounds_formed (count ∷ []) =
    formed (number_of count) _ _ _ _ refl (λ _. refl)
rounds_formed (count ∷ another ∷ more) =
    longer 1 (length (count ∷ another ∷ more)) _ (omega arith)
rounds_formed _ = refl

pub deliver_formed : (words : List (List ℕ)) → is_some (numbered line.Deliver words) ≡ are_formed (Some kind.Deliver) words
deliver_formed (place ∷ []) =
    formed (number_of place) _ _ _ _ refl (λ _. refl)
deliver_formed (place ∷ another ∷ more) =
    longer 1 (length (place ∷ another ∷ more)) _ (omega arith)
deliver_formed _ = refl

pub lose_formed : (words : List (List ℕ)) → is_some (numbered line.Lose words) ≡ are_formed (Some kind.Lose) words
lose_formed (place ∷ []) =
    formed (number_of place) _ _ _ _ refl (λ _. refl)
lose_formed (place ∷ another ∷ more) =
    longer 1 (length (place ∷ another ∷ more)) _ (omega arith)
lose_formed _ = refl

pub copy_formed : (words : List (List ℕ)) → is_some (numbered line.Copy words) ≡ are_formed (Some kind.Copy) words
copy_formed (place ∷ []) =
    formed (number_of place) _ _ _ _ refl (λ _. refl)
copy_formed (place ∷ another ∷ more) =
    longer 1 (length (place ∷ another ∷ more)) _ (omega arith)
copy_formed _ = refl

pub inject_formed : (words : List (List ℕ)) → is_some (inject_line words) ≡ are_formed (Some kind.Inject) words
unfolding inject_line
inject_formed (end ∷ addr ∷ digits ∷ []) =
    formed (name_of end) _ _ _ _ (named end) (λ _.
    formed (quad_of addr) _ _ _ _ refl (λ _.
    formed (bytes_of digits) _ _ _ _ refl (λ _. refl)))
inject_formed (end ∷ addr ∷ digits ∷ another ∷ more) =
    longer 3 (length (end ∷ addr ∷ digits ∷ another ∷ more)) _ (omega arith)
inject_formed _ = refl

either_form : {A : Type 0} (a b : Bool) (x y : A) (p : ℕ) → is_some (if a then Some x else (if b then Some y else None)) ≡ is_none (if (a || b) then None else Some p)
either_form true b x y p = refl
either_form false true x y p = refl
either_form false false x y p = refl

pub trace_formed : (words : List (List ℕ)) → is_some (trace_line words) ≡ are_formed (Some kind.Trace) words
unfolding trace_line
trace_formed (word ∷ []) = either_form (bytes_eq word (codes "on")) (bytes_eq word (codes "off")) _ _ 0
trace_formed (word ∷ another ∷ more) = longer 1 (length (word ∷ another ∷ more)) _ (omega arith)
trace_formed _ = refl

pub report_formed : (words : List (List ℕ)) → is_some (report_line words) ≡ are_formed (Some kind.Report) words
unfolding report_line
report_formed (end ∷ []) = formed (name_of end) _ _ _ _ (named end) (λ _. refl)
report_formed (end ∷ another ∷ more) = over 1 (length (end ∷ another ∷ more)) _ (omega arith)
report_formed _ = refl

pub pass_formed : (words : List (List ℕ)) → is_some (pass_line words) ≡ are_formed (Some kind.Pass) words
unfolding pass_line
pass_formed (count ∷ []) = formed (number_of count) _ _ _ _ refl (λ _. refl)
pass_formed (count ∷ another ∷ more) = over 1 (length (count ∷ another ∷ more)) _ (omega arith)
pass_formed _ = refl

pub flags_formed : (words : List (List ℕ)) → is_some (flags_line words) ≡ are_formed (Some kind.Flags) words
unfolding flags_line
flags_formed (word ∷ more) = longer 0 (length (word ∷ more)) _ (omega arith)
flags_formed _ = refl

pub adverts_formed : (words : List (List ℕ)) → is_some (adverts_line words) ≡ are_formed (Some kind.Adverts) words
unfolding adverts_line
adverts_formed (word ∷ more) = longer 0 (length (word ∷ more)) _ (omega arith)
adverts_formed _ = refl

-- ---- names of ends, as many as there are
names_formed : (k : Kind) (place : ℕ) (words : List (List ℕ)) → ((p : ℕ) → place ≤ p → field_at k p ≡ field.Name)
    → is_some (each_of name_of words) ≡ is_none (unformed_from k place words)
names_formed k place [] names = refl
names_formed k place (word ∷ words) names =
    let more = names_formed k (place + 1) words (λ p up. names p (omega (arith, up))) in
    rw (names place (omega arith)) (formed (name_of word) _ _ _ _ (named word) (λ _. said_of (each_of name_of words) _ ∙ more))

link_names : (p : ℕ) → 0 ≤ p → field_at kind.Link p ≡ field.Name
link_names zero up = refl
link_names (suc zero) up = refl
link_names (suc (suc zero)) up = refl
link_names (suc (suc (suc zero))) up = refl
link_names (suc (suc (suc (suc zero)))) up = refl
link_names (suc (suc (suc (suc (suc zero))))) up = refl
link_names (suc (suc (suc (suc (suc (suc zero)))))) up = refl
link_names (suc (suc (suc (suc (suc (suc (suc zero))))))) up = refl
link_names (suc (suc (suc (suc (suc (suc (suc (suc p)))))))) up = refl

counted : {A : Type 0} (b : Bool) (o : Option A) (r : Option ℕ) → is_some o ≡ is_none r → is_some (if b then o else None) ≡ (b && is_none r)
counted true o r same = same
counted false o r same = refl

pub link_formed : (words : List (List ℕ)) → is_some (link_line words) ≡ are_formed (Some kind.Link) words
unfolding link_line
link_formed words =
    counted (nat_le 2 (length words) && nat_le (length words) 8) _ _ (said_of (each_of name_of words) _ ∙ names_formed kind.Link 0 words link_names)

-- ---- pairs of ends
-- one more word, where it is known whether their number is right
formed_of : {A B : Type 0} (e : Bool) (o : Option A) (f : A → Option B) (b : Bool) (r : Option ℕ) (p : ℕ) → is_some o ≡ b → ((x : A) → is_some (f x) ≡ (e && is_none r))
    → is_some (o >>= f) ≡ (e && is_none (if b then r else Some p))
formed_of true o f b r p has rest = formed o f b r p has rest
formed_of false None f b r p has rest = refl
formed_of false (Some x) f b r p has rest = rest x

two_more : (n : ℕ) → (n % 2 == 0) ≡ (suc (suc n) % 2 == 0)
two_more n = grind arith

pairs_formed : (k : Kind) (place : ℕ) (words : List (List ℕ)) → ((p : ℕ) → place ≤ p → field_at k p ≡ field.Name)
    → is_some (pairs_of words) ≡ ((length words % 2 == 0) && is_none (unformed_from k place words))
pairs_formed k place [] names = refl
pairs_formed k place (one ∷ []) names = refl
pairs_formed k place (one ∷ other ∷ words) names =
    let even = length words % 2 == 0 in
    let more = pairs_formed k (place + 1 + 1) words (λ p up. names p (omega (arith, up))) in
    rw (sym (two_more (length words)), names place (omega arith), names (place + 1) (omega arith)) (
    formed_of even (name_of one) _ _ _ _ (named one) (λ _. formed_of even (name_of other) _ _ _ _ (named other) (λ _. said_of (pairs_of words) _ ∙ more)))

reroute_names : (p : ℕ) → 2 ≤ p → field_at kind.Reroute p ≡ field.Name
reroute_names zero up = absurd (omega (arith, up))
reroute_names (suc zero) up = absurd (omega (arith, up))
reroute_names (suc (suc p)) up = refl

even_more : (n : ℕ) → (n % 2 == 0) ≡ (nat_le 2 (suc (suc n)) && (suc (suc n) % 2 == 0))
even_more n = grind arith

pub reroute_formed : (words : List (List ℕ)) → is_some (reroute_line words) ≡ are_formed (Some kind.Reroute) words
unfolding reroute_line
reroute_formed (group ∷ source ∷ ends) =
    let even = length ends % 2 == 0 in
    let more = pairs_formed kind.Reroute 2 ends reroute_names in
    rw (sym (even_more (length ends))) (
    formed_of even (quad_of group) _ _ _ _ refl (λ _. formed_of even (quad_of source) _ _ _ _ refl (λ _. said_of (pairs_of ends) _ ∙ more)))
reroute_formed _ = refl
