-- A node of which one session changed, with its countdown, before its neighbours are told.
use Rattle.std.specs.Prelude.{◌≡◌, ℕ, Bool, Option}
use Rattle.std.proofs.Common.{sym, ap, subst, ◌∙◌}
use Rattle.rsvp_base.specs.Sets.{Set}
use Rattle.rsvp_base.specs.Table.{get, has}
use Rattle.rsvp_base.specs.declared.style.StyleKind.{StyleKind}
use Rattle.rsvp_base.specs.declared.style.StyleKind.TheVariants.{Wild, Fixed, Shared}
use Rattle.style_rules.specs.Lines.{LineKey, next_hops}
use Rattle.router_rules.specs.Act.{act}
use Rattle.router_rules.specs.Facts.{Facts, SenderKey}
use Rattle.router_rules.specs.Forgetting.{counted, forget}
use Rattle.router_rules.specs.Inputs.{Change, Input, only_heard}
use Rattle.router_rules.specs.Offers.{Offer}
use Rattle.router_rules.specs.Rule.{settled}
use Rattle.router_rules.specs.declared.answers.Heard.{Heard}
use Rattle.router_state.specs.Changes.{recounted}
use Rattle.router_state.specs.State.{AreNamed, IsSaid, IsSettled, Said, State, facts_of, table_in}
use Rattle.laws_sends.specs.Before.{IsBefore}
use Rattle.laws_sends.specs.Changed.{IsChangedFor}
use Rattle.laws_sends.specs.SendsHere.{hops_in}
use Rattle.laws_sends.specs.Told.{offered}
use Rattle.laws_sends.proofs.Apart.{recounted_change}
use Rattle.router_arrivals.proofs.Ruled.{IsPlain, IsRuled}
use Rattle.router_arrivals.proofs.Settles.{after_settled, change_settled}

-- what is known of a state does not depend on what was said
pub settled_with : (n : State) (said : Said) → IsSettled n → IsSettled (record n { said = said })
settled_with n said kept = record { counted = kept.counted; named = kept.named }

pub said_with : (n : State) (any said : Said) → IsSaid said n → IsSaid said (record n { said = any })
said_with n any said told = record { at = told.at; some = told.some }

pub change_with : (k : SenderKey) (n m : State) (any : Said) → IsChangedFor k n m → IsChangedFor k n (record m { said = any })
change_with k n m any ch = record { place = ch.place; senders = ch.senders; advertised = ch.advertised; paths = ch.paths; wants = ch.wants; walls = ch.walls; resvs = λ st q off. by st q (ch.resvs st q off) }
  where
    by : (st : StyleKind) (q : LineKey) → get (table_in st n) q ≡ get (table_in st m) q → get (table_in st n) q ≡ get (table_in st (record m { said = any })) q
    by Wild q e = e
    by Fixed q e = e
    by Shared q e = e

-- with what the neighbours are to know
pub is_before : (k : SenderKey) (n w : State) → IsChangedFor k n w → w.said ≡ n.said → IsSaid n.said n → (offer : Option Offer) → ((c : ℕ) → offer ≡ offered (facts_of c n) k) → (near : Set next_hops)
    → ((c : ℕ) → near ≡ hops_in (facts_of c n) k.0) → IsBefore k n w offer near
is_before k n w ch same told offer offers near hops = record { change = ch; same = same; said = told; offer = offers; hops = hops }

-- ---- m is what the tables have then, with names forgotten, and g what the input does by itself
module _ (n : State) (kept : IsSettled n) (i : Input) (k : SenderKey) (m : State) (ch : IsChangedFor k n m) (due : m.due ≡ n.due) (counts : Bool)
    (is : (c : ℕ) → counts ≡ has (counted (facts_of c m)) k.0)
    (named : (c : ℕ) → AreNamed (facts_of c m)) (g : ℕ → Facts) (forgot : (c : ℕ) → facts_of c m ≡ forget (facts_of c n) (g c)) where
  abbrev after : State
  after = recounted m k.0 counts

  module _ (w : State) (any : Said) (now : w ≡ record after { said = any }) where
    pub is_ruled : ((c : ℕ) → (act n.place c i (facts_of c n)).facts ≡ g c) → IsRuled k n i w
    is_ruled does = record {
      change = subst (IsChangedFor k n) (sym now) (change_with k n after any (recounted_change k n m k.0 counts ch));
      kept = subst IsSettled (sym now) (settled_with after any (after_settled k n m ch kept due counts is g forgot named));
      facts = λ c.
          ap (facts_of c) now ∙ change_settled k n m ch kept due counts is c (g c) (forgot c) ∙ ap (λ p. settled p c (facts_of c n) (g c)) (sym ch.place)
          ∙ ap (settled n.place c (facts_of c n)) (sym (does c));
    }

    pub is_plain : (h : Heard) → ((c : ℕ) → act n.place c i (facts_of c n) ≡ only_heard h (g c)) → IsPlain k n i h w
    is_plain h does = record {
      ruled = is_ruled (λ c. ap (λ (x : Change). x.facts) (does c));
      does = λ c. does c ∙ ap (λ (x : Change). only_heard h x.facts) (sym (does c));
    }
