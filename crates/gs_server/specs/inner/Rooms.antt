-- What is to be sent, and how many more can be put without memory.
use Rattle.std.specs.Prelude.{ℕ, List, refl}
use Rattle.std.specs.Coded.{Coded, code_by, coded×, coded_ℕ, coded_list}
use Rattle.gs_msg.specs.declared.message.Message.{Message}
use Rattle.gs_msg.specs.contracts.message.Message as message_code

pub record Room : Type 0 where
  pub messages : List Message
  pub room : ℕ

abbrev pub coded_room : Coded Room
coded_room =
    code_by (List Message × ℕ) (coded× (coded_list message_code.the_row.coded) coded_ℕ)
    (λ r. (r.messages, r.room)) (λ p. record { messages = p.0; room = p.1 }) (λ _. refl)
