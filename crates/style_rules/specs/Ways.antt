-- Names via a previous hop, each with its way out and its blockade.
use Rattle.std.specs.Prelude.{ℕ, Option, refl}
use Rattle.std.specs.Coded.{Coded, code_by, coded×, coded_ℕ, coded_option}
use Rattle.rsvp_base.specs.declared.session.Sender.{Sender}
use Rattle.rsvp_base.specs.Codes.{bucket_code}
use Rattle.rsvp_base.specs.Orders.{senders, sender_code}
use Rattle.rsvp_base.specs.Table.{Table, table_code}
use Rattle.rsvp_base.specs.TokenBucket.{TokenBucket}
use Rattle.style_rules.specs.declared.wall.UpLine.{UpLine}
use Rattle.style_rules.specs.declared.wall.Wall.{Wall}

pub record Way : Type 0 where
  pub outward : ℕ
  pub wall : Option Wall

abbrev pub WayTable : Type 0
WayTable = Table senders Way

-- a line stands for the way of its name
abbrev pub way_of : UpLine → Sender × Way
way_of l = (l.name, record { outward = l.outward; wall = l.wall })

abbrev pub up_line_of : Sender × Way → UpLine
up_line_of e = record { name = e.0; outward = e.1.outward; wall = e.1.wall }

abbrev pub wall_code : Coded Wall
wall_code = code_by (TokenBucket × ℕ) (coded× bucket_code coded_ℕ) (λ w. (w.flow, w.sub)) (λ t. record { flow = t.0; sub = t.1 }) (λ _. refl)

abbrev pub way_code : Coded Way
way_code = code_by (ℕ × Option Wall) (coded× coded_ℕ (coded_option wall_code)) (λ w. (w.outward, w.wall)) (λ t. record { outward = t.0; wall = t.1 }) (λ _. refl)

abbrev pub way_table_code : Coded WayTable
way_table_code = table_code senders sender_code way_code
