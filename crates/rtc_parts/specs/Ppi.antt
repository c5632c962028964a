-- Payload protocol identifiers (RFC 8831, section 8).
use Rattle.std.specs.Prelude.{ℕ, ◌==◌, if◌then◌else◌}
use Rattle.rtc_parts.specs.declared.ppi.Ppi.{Ppi}
use Rattle.rtc_parts.specs.declared.ppi.Ppi.TheVariants.{Dcep, Text, Binary, EmptyText, EmptyBinary, Other}

-- the number of an identifier
abbrev pub ppi_number : Ppi → ℕ
ppi_number Dcep = 50
ppi_number Text = 51
ppi_number Binary = 53
ppi_number EmptyText = 56
ppi_number EmptyBinary = 57
ppi_number (Other number) = number

-- the identifier of a number, by its name if it has one
abbrev pub ppi_of : ℕ → Ppi
ppi_of number =
    if number == 50 then Dcep
    else if number == 51 then Text
    else if number == 53 then Binary
    else if number == 56 then EmptyText
    else if number == 57 then EmptyBinary
    else Other number
