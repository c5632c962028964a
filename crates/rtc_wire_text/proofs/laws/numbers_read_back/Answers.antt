use Rattle.rtc_wire_text.proofs.NumberLemmas.{number-decimal, number_up_to-decimal}
use Rattle.rtc_wire_text.proofs.laws.numbers_read_back.Goals as goal

pub returns : goal.returns
returns c = record { any = number-decimal; bounded = number_up_to-decimal }
