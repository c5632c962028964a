-- What the rows of channels stay over, and what they become where a channel is added; and that a start keeps the longest message.
use Rattle.std.specs.Prelude.{◌&&◌, not, is_some}
use Rattle.std.proofs.Common.{◌≡◌, ◌∙◌, ◌++◌, ℕ, Bool, true, false, cond, List, [], ◌∷◌, map, Option, Some, None, Result, Ok, Err, refl, ap}
use Rattle.std.proofs.lemmas.List.{map-append}
use Rattle.rtc_wire.specs.declared.channel_config.ChannelConfig.{ChannelConfig}
use Rattle.rtc_sdp_values.specs.declared.line_row.LineRow.{LineRow}
use Rattle.rtc_parts.specs.AssociationMeaning.{AssociationMeaning}
use Rattle.rtc_parts.specs.AssociationLaws.{AssociationLaws}
use Rattle.rtc_sctp.specs.Streams.{SctpStreams}
use Rattle.rtc_sctp.specs.Calls.{Inits, is_open_stream}
use Rattle.rtc_sctp_values.specs.InitHalves.{InitHalves}
use Rattle.rtc_sctp_values.specs.SnapHalves.{KeptHalves}
use Rattle.rtc_sctp_values.specs.declared.proto_error.ProtoError.TheVariants as proto
use Rattle.rtc_sctp_values.specs.declared.sctp_error.SctpError.{SctpError}
use Rattle.rtc_sctp_values.specs.declared.sctp_error.SctpError.TheVariants as sctp
use Rattle.rtc_sctp_entries.specs.Entries.{has_open}
use Rattle.rtc_peer_rows.specs.Table.{app_of}
use Rattle.rtc_sctp.proofs.StartLemmas.{AlikeStreams, ShowsNone, inits_same}
use Rattle.rtc_channels.specs.Channels.{Channel, Channels, has_channel_id, unconfirmed, with_channel, rows_confirmed, confirmed, all_confirmed}
use Rattle.rtc_channels.specs.declared.channel_row.ChannelRow.{ChannelRow}
use Rattle.rtc_peer_core.specs.ChannelRows.{generation_over, is_open_over, channel_row, channel_rows}
use Rattle.rtc_peer_core.specs.PartMoves.{StartsSctp, StartsWhere, needs_start, dropped_halves}

module _ {S : Type 0} (m : AssociationMeaning S) where
  rows_of_confirmed : (p : SctpStreams S) (id : ℕ) (config : ChannelConfig) (rows : List Channel)
      → map (channel_row m p) (rows_confirmed id config rows) ≡ map (channel_row m p) rows
  rows_of_confirmed p id config [] = refl
  rows_of_confirmed p id config (channel ∷ rest) = by (has_channel_id id channel) (rows_of_confirmed p id config rest)
    where
      by : (here : Bool) → map (channel_row m p) (rows_confirmed id config rest) ≡ map (channel_row m p) rest
          → map (channel_row m p) (cond here (record channel { config = Some config; confirmed = true } ∷ rest) (channel ∷ rows_confirmed id config rest))
          ≡ map (channel_row m p) (channel ∷ rest)
      by true same = refl
      by false same = ap (λ (more : List ChannelRow). channel_row m p channel ∷ more) same

  -- channels that are confirmed keep their rows
  pub confirmed_rows : (p : SctpStreams S) (channels : List (ℕ × ChannelConfig)) (held : Channels)
      → channel_rows m p (all_confirmed channels held) ≡ channel_rows m p held
  confirmed_rows p [] held = refl
  confirmed_rows p (channel ∷ rest) held =
      confirmed_rows p rest (confirmed channel.0 channel.1 held) ∙ rows_of_confirmed p channel.0 channel.1 held.rows

  -- a channel that is added has its row behind, and waits for a stream
  pub added_rows : (p : SctpStreams S) (held : Channels) (config : ChannelConfig)
      → channel_rows m p (with_channel held config) ≡ channel_rows m p held ++ channel_row m p (unconfirmed held.given config) ∷ []
  added_rows p held config = map-append (channel_row m p) held.rows (unconfirmed held.given config ∷ [])

  -- streams that show the same
  generation_alike : (p q : SctpStreams S) → AlikeStreams m p q → (stream : Option ℕ) → generation_over m stream q ≡ generation_over m stream p
  generation_alike p q alike None = refl
  generation_alike p q alike (Some stream) = alike.generation stream

  is_open_alike : (p q : SctpStreams S) → AlikeStreams m p q → (stream : Option ℕ) → is_open_over m stream q ≡ is_open_over m stream p
  is_open_alike p q alike None = refl
  is_open_alike p q alike (Some stream) = alike.is_open stream

  row_of_parts : (id : ℕ) (stream : Option ℕ) (a b : ℕ) (c d : Bool) → a ≡ b → c ≡ d
      → ◌≡◌ {A = ChannelRow} (record { id = id; stream = stream; generation = a; is_open = c }) (record { id = id; stream = stream; generation = b; is_open = d })
  row_of_parts id stream a b c d first second = rw (first, second) refl

  row_alike : (p q : SctpStreams S) → AlikeStreams m p q → (channel : Channel) → channel_row m q channel ≡ channel_row m p channel
  row_alike p q alike channel =
      row_of_parts channel.id channel.stream _ _ _ _ (generation_alike p q alike channel.stream) (is_open_alike p q alike channel.stream)

  rows_of_alike : (p q : SctpStreams S) → AlikeStreams m p q → (rows : List Channel) → map (channel_row m q) rows ≡ map (channel_row m p) rows
  rows_of_alike p q alike [] = refl
  rows_of_alike p q alike (channel ∷ rest) =
      ap (λ (row : ChannelRow). row ∷ map (channel_row m q) rest) (row_alike p q alike channel)
      ∙ ap (λ (more : List ChannelRow). channel_row m p channel ∷ more) (rows_of_alike p q alike rest)

  pub alike_rows : (p q : SctpStreams S) (held : Channels) → AlikeStreams m p q → channel_rows m q held ≡ channel_rows m p held
  alike_rows p q held alike = rows_of_alike p q alike held.rows

  -- no entry is open before the association is started
  abbrev pub IsShutBefore : SctpStreams S → Type 0
  IsShutBefore p = m.started p.association ≡ false → (id : ℕ) → has_open id p.entries ≡ false

  -- what is kept of starts by session descriptions shows nothing
  kept_same : (p q : SctpStreams S) (kept : KeptHalves) → q ≡ record p { snap = kept } → AlikeStreams m p q
  kept_same p q kept same = record {
    generation = λ id. ap (λ (s : SctpStreams S). m.generation s.association id) same;
    is_open = λ id. ap (λ (s : SctpStreams S). m.started s.association && is_open_stream id s) same;
  }

  pub kept_rows : (p : SctpStreams S) (kept : KeptHalves) (held : Channels)
      → channel_rows m (record p { snap = kept }) held ≡ channel_rows m p held
  kept_rows p kept held = alike_rows p (record p { snap = kept }) held (kept_same p (record p { snap = kept }) kept refl)

  shows_none : (halves : Option InitHalves) (p : SctpStreams S) → ((id : ℕ) → has_open id p.entries ≡ false) → ShowsNone halves p.entries
  shows_none None p shut = tt
  shows_none (Some halves) p shut = shut

  -- rows that are to start an association find it not started
  unstarted_where : (some started : Bool) → (some && not started) ≡ true → started ≡ false
  unstarted_where true false h = refl
  unstarted_where true true h = absurd (cc)
  unstarted_where false started h = absurd (cc)

  started_where : AssociationLaws m → (p q : SctpStreams S) (rows : List LineRow) (client : Bool) (now max : ℕ) (halves : Option InitHalves)
      (drops : Bool) (r : Result (Unit {0}) SctpError) → IsShutBefore p → (needed : Bool) → needs_start m rows p ≡ needed
      → StartsWhere m needed p client now max halves drops r q → AlikeStreams m p q
  started_where laws p q rows client now max halves drops r shut false is h = kept_same p q (dropped_halves drops p.snap) h.1
  started_where laws p q rows client now max halves drops r shut true is h =
      inits_same m laws client now max halves p q r
      (shows_none halves p (shut (unstarted_where (is_some (app_of rows)) (m.started p.association) is))) h

  -- a start of the association, Ok or refused, leaves all rows, where no entry is open before it
  pub started_rows : AssociationLaws m → (p q : SctpStreams S) (rows : List LineRow) (client : Bool) (now max : ℕ) (halves : Option InitHalves)
      (drops : Bool) (r : Result (Unit {0}) SctpError) (held : Channels) → IsShutBefore p
      → StartsSctp m p rows client now max halves drops r q → channel_rows m q held ≡ channel_rows m p held
  started_rows laws p q rows client now max halves drops r held shut h =
      alike_rows p q held (started_where laws p q rows client now max halves drops r shut (needs_start m rows p) refl h)

  inits_size : (client : Bool) (now max : ℕ) (snap : Option InitHalves) (p q : SctpStreams S) (r : Result (Unit {0}) SctpError)
      → Inits m client now max snap p r q → q.local_max ≡ p.local_max
  inits_size client now max snap p q (Ok x) h = ap (λ (s : SctpStreams S). s.local_max) h.2
  inits_size client now max snap p q (Err (sctp.Proto proto.Started)) h = ap (λ (s : SctpStreams S). s.local_max) h.1
  inits_size client now max snap p q (Err (sctp.Proto proto.SnapHalf)) h = ap (λ (s : SctpStreams S). s.local_max) h.2
  inits_size client now max snap p q (Err (sctp.Proto proto.Fault)) h = ap (λ (s : SctpStreams S). s.local_max) h.2
  inits_size client now max snap p q (Err (sctp.Proto (proto.TooLong len limit))) h = absurd h
  inits_size client now max snap p q (Err (sctp.Proto (proto.NoStream id))) h = absurd h
  inits_size client now max snap p q (Err sctp.WriteBeforeEstablished) h = absurd h
  inits_size client now max snap p q (Err sctp.DcepOpenTooSmall) h = absurd h
  inits_size client now max snap p q (Err sctp.DcepIncorrectMessageType) h = absurd h
  inits_size client now max snap p q (Err sctp.DcepBadUtf8) h = absurd h
  inits_size client now max snap p q (Err sctp.InvalidSnap) h = absurd h
  inits_size client now max snap p q (Err sctp.Alloc) h = ap (λ (s : SctpStreams S). s.local_max) h.2

  where_size : (needed : Bool) (p q : SctpStreams S) (client : Bool) (now max : ℕ) (halves : Option InitHalves) (drops : Bool)
      (r : Result (Unit {0}) SctpError) → StartsWhere m needed p client now max halves drops r q → q.local_max ≡ p.local_max
  where_size false p q client now max halves drops r h = ap (λ (s : SctpStreams S). s.local_max) h.1
  where_size true p q client now max halves drops r h = inits_size client now max halves p q r h

  -- and so does the longest message that this side takes
  pub started_size : (p q : SctpStreams S) (rows : List LineRow) (client : Bool) (now max : ℕ) (halves : Option InitHalves) (drops : Bool)
      (r : Result (Unit {0}) SctpError) → StartsSctp m p rows client now max halves drops r q → q.local_max ≡ p.local_max
  started_size p q rows client now max halves drops r h = where_size (needs_start m rows p) p q client now max halves drops r h
