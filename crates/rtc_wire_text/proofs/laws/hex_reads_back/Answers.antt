use Rattle.rtc_wire_text.proofs.HexLemmas.{hex_bytes-hex_text}
use Rattle.rtc_wire_text.proofs.laws.hex_reads_back.Goals as goal

pub returns : goal.returns
returns c = hex_bytes-hex_text
