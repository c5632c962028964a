-- What the kind of a plain line says.
use Rattle.std.proofs.Common.{◌≡◌, Bool, true, false, not, cond, [], None, refl, sym}
use Rattle.rtc_sdp_values.specs.Sdp.{is_application}
use Rattle.rtc_sdp_values.specs.declared.line_kind.LineKind.{LineKind}
use Rattle.rtc_sdp_values.specs.declared.line_kind.LineKind.TheVariants.{Audio, Video, Application, Unknown}
use Rattle.rtc_sdp_values.specs.declared.media_line.MediaLine.{MediaLine}
use Rattle.rtc_sdp_writer.specs.MediaRows.{shown_stream, shown_sources}
use Rattle.rtc_sdp_writer.specs.Plain.{IsChannelLine, IsMediumLine, SuitsKind}

pub is_medium : (kind : LineKind) (line : MediaLine) → SuitsKind kind line → not (is_application kind) ≡ true → IsMediumLine line
is_medium Audio line k e = k
is_medium Video line k e = k
is_medium Application line k e = absurd cc
is_medium Unknown line k e = absurd k

pub no_medium : (kind : LineKind) (line : MediaLine) → SuitsKind kind line → not (is_application kind) ≡ false → IsChannelLine line
no_medium Audio line k e = absurd cc
no_medium Video line k e = absurd cc
no_medium Application line k e = k
no_medium Unknown line k e = absurd k

pub no_channel : (kind : LineKind) (line : MediaLine) → SuitsKind kind line → is_application kind ≡ false → IsMediumLine line
no_channel Audio line k e = k
no_channel Video line k e = k
no_channel Application line k e = absurd cc
no_channel Unknown line k e = absurd k

shown : {A : Type 0} (disabled : Bool) (nothing value : A) → (disabled ≡ true → value ≡ nothing) → cond disabled nothing value ≡ value
shown true nothing value h = sym (h refl)
shown false nothing value h = refl

pub stream_shown : (line : MediaLine) → IsMediumLine line → shown_stream line ≡ line.msid
stream_shown line m = shown line.disabled None line.msid (λ e. (m.quiet e).msid)

pub sources_shown : (line : MediaLine) → IsMediumLine line → shown_sources line ≡ line.ssrcs
sources_shown line m = shown line.disabled [] line.ssrcs (λ e. (m.quiet e).ssrcs)
