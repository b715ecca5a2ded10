-- What is told over a hop more is what its node makes of what it keeps.
use Rattle.std.proofs.Common.{◌≡◌, ℕ, List, [], ◌∷◌, Option, None, Some, sym, refl, ap, ◌∙◌}
use Rattle.std.specs.Prelude.{map as each, slice_get, ◌++◌}
use Rattle.adspec_path.specs.Advertisement.{advertisement, composed}
use Rattle.adspec_path.specs.Composing.{pass_on, start}
use Rattle.rsvp_base.specs.declared.iface.Iface.{Iface}
use Rattle.rsvp_messages.specs.RsvpObjects.declared.adspec.Adspec.{Adspec}
use Rattle.router_rules.specs.declared.advert.Advert.TheVariants.{Begins}
use Rattle.router_rules.specs.Offers.{advert_by, advert_of}
use Rattle.adspec_path.proofs.Composed.{an_advertisement_is_composed}
use Rattle.tree_model.specs.declared.hops.End.{End}
use Rattle.tree_model.specs.declared.hops.LinkHop.{LinkHop}
use Rattle.tree_model.specs.Networks.{Net}
use Rattle.network_model.specs.Worlds.{ifaces_at, with_iface}
use Rattle.settle_adverts.specs.Adverts.{composed_of, advert_over}

-- ---- one interface more
composed_more : (a : Adspec) (ons : List Iface) (on : Iface) → composed a (ons ++ on ∷ []) ≡ pass_on (composed a ons) on
composed_more a [] on = refl
composed_more a (x ∷ ons) on = composed_more (pass_on a x) ons on

pub begins : (on : Iface) → advert_by (Some on) Begins ≡ composed_of (on ∷ [])
begins on = ap Some (an_advertisement_is_composed on [])

passed : (first : Iface) (rest : List Iface) (on : Iface) → advert_by (Some on) (advert_of (composed_of (first ∷ rest))) ≡ composed_of (first ∷ (rest ++ on ∷ []))
passed first rest on =
    ap (λ (a : Adspec). Some (pass_on a on)) (sym (an_advertisement_is_composed first rest))
    ∙ ap Some (sym (composed_more (start first) rest on))
    ∙ ap Some (an_advertisement_is_composed first (rest ++ on ∷ []))

-- behind one interface at least
pub passes : (ons : List Iface) (last on : Iface) → advert_by (Some on) (advert_of (composed_of (ons ++ last ∷ []))) ≡ composed_of ((ons ++ last ∷ []) ++ on ∷ [])
passes [] last on = passed last [] on
passes (first ∷ rest) last on = passed first (rest ++ last ∷ []) on

-- ---- one hop more
one_more : (ends : List End) (es : List ℕ) (e : ℕ) (x : End) → slice_get ends e ≡ Some x → ifaces_at ends (es ++ e ∷ []) ≡ ifaces_at ends es ++ x.iface ∷ []
one_more ends [] e x at = ap (λ (o : Option End). with_iface o []) at
one_more ends (d ∷ es) e x at = ap (with_iface (slice_get ends d)) (one_more ends es e x at) ∙ by (slice_get ends d) (ifaces_at ends es)
  where
    by : (o : Option End) (is : List Iface) → with_iface o (is ++ x.iface ∷ []) ≡ with_iface o is ++ x.iface ∷ []
    by None is = refl
    by (Some y) is = refl

each_more : (hs : List LinkHop) (h : LinkHop) → each (λ (z : LinkHop). z.from) (hs ++ h ∷ []) ≡ each (λ (z : LinkHop). z.from) hs ++ h.from ∷ []
each_more [] h = refl
each_more (x ∷ hs) h = ap (λ (es : List ℕ). x.from ∷ es) (each_more hs h)

abbrev ifaces_over : Net → List LinkHop → List Iface
ifaces_over net hs = ifaces_at net.ends (each (λ (z : LinkHop). z.from) hs)

over_more : (net : Net) (hs : List LinkHop) (h : LinkHop) (x : End) → slice_get net.ends h.from ≡ Some x → ifaces_over net (hs ++ h ∷ []) ≡ ifaces_over net hs ++ x.iface ∷ []
over_more net hs h x at = ap (ifaces_at net.ends) (each_more hs h) ∙ one_more net.ends (each (λ (z : LinkHop). z.from) hs) h.from x at

-- over the first hop what begins is told, and over each further one what is passed on
pub first_told : (net : Net) (h : LinkHop) (x : End) → slice_get net.ends h.from ≡ Some x → advert_by (Some x.iface) Begins ≡ advert_over net (h ∷ [])
first_told net h x at = begins x.iface ∙ ap composed_of (sym (over_more net [] h x at))

pub next_told : (net : Net) (hs : List LinkHop) (g h : LinkHop) (x y : End) → slice_get net.ends g.from ≡ Some x → slice_get net.ends h.from ≡ Some y
    → advert_by (Some y.iface) (advert_of (advert_over net (hs ++ g ∷ []))) ≡ advert_over net ((hs ++ g ∷ []) ++ h ∷ [])
next_told net hs g h x y at to =
    ap (λ (is : List Iface). advert_by (Some y.iface) (advert_of (composed_of is))) (over_more net hs g x at)
    ∙ passes (ifaces_over net hs) x.iface y.iface
    ∙ ap (λ (is : List Iface). composed_of (is ++ y.iface ∷ [])) (sym (over_more net hs g x at))
    ∙ ap composed_of (sym (over_more net (hs ++ g ∷ []) h y to))
