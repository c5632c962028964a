-- What every line is that is read, whoever wrote the text.
use Rattle.std.specs.Prelude.{◌≡◌, true, IfSome}
use Rattle.std.specs.List.{AllByRecursion}
use Rattle.rtc_wire_text.specs.Tokens.{is_short_token}
use Rattle.rtc_sdp_values.specs.declared.media_line.MediaLine.{MediaLine}
use Rattle.rtc_sdp_reader.specs.PlainPayloads.{IsPlainPayload, AreApart}
use Rattle.rtc_sdp_writer.specs.Plain.{IsPlainExtension, IsPlainSimulcast}

-- a mid that is a short token, payload types of seven bits that are not repeated, extension ids from 1 to 255, and layers with names of
-- their own
pub record IsReadLine (line : MediaLine) : Type 0 where
  pub mid : is_short_token line.mid ≡ true
  pub payloads : AllByRecursion IsPlainPayload line.payloads
  pub numbers : AreApart line.payloads
  pub exts : AllByRecursion IsPlainExtension line.exts
  pub simulcast : IfSome line.simulcast IsPlainSimulcast
