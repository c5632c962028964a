-- Steps with data channels, computed: what their answers tell, and which replies they may have.
use Rattle.std.proofs.Common.{◌≡◌, ◌<◌, ℕ, true, false, List, [], ◌∷◌, map, Some, refl, sym, ap, arith}
use Rattle.std.specs.Prelude.{codes}
use Rattle.std.proofs.lemmas.List.Elements.{All-nil, All-cons, All-head}
use Rattle.rtc_wire.specs.declared.channel_config.ChannelConfig.{ChannelConfig}
use Rattle.rtc_wire.specs.ChannelConfig.{fresh, is_overlong}
use Rattle.rtc_sdp_values.specs.declared.direction.Direction.TheVariants.{SendRecv}
use Rattle.rtc_sdp_values.specs.declared.media_kind.MediaKind.TheVariants.{Audio}
use Rattle.rtc_sdp_values.specs.declared.line_row.LineRow.TheVariants.{Media, App}
use Rattle.rtc_sdp_values.specs.declared.sdp.Sdp.{Sdp}
use Rattle.rtc_peer_rows.specs.declared.parsed_line.ParsedLine.{ParsedLine}
use Rattle.rtc_peer_rows.specs.ParsedLines.{parsed_lines}
use Rattle.rtc_peer_transport.specs.declared.event.Event.TheVariants.{ChannelOpen}
use Rattle.rtc_peer_core.specs.MadeSdp.{sdp_of_rows}
use Rattle.rtc_run_history.specs.declared.side.Side.{Side}
use Rattle.rtc_run_history.specs.declared.side.Side.TheVariants.{Left, Right}
use Rattle.rtc_run_history.specs.declared.op.Op.TheVariants.{AddMedia, AddChannel}
use Rattle.rtc_run_history.specs.declared.op_answer.OpAnswer.TheVariants.{Mid, Channel, BadChannel}
use Rattle.rtc_run_history.specs.declared.made.Made.{Made}
use Rattle.rtc_run_history.specs.declared.made.Made.TheVariants.{Nothing, Offer}
use Rattle.rtc_run_history.specs.declared.step.Step.{Step}
use Rattle.rtc_run_history.specs.declared.step.Step.TheVariants.{Negotiate, AcceptOffer, AcceptAnswer, Poll}
use Rattle.rtc_run_history.specs.declared.outcome.Outcome.TheVariants.{Negotiated, Answered, Finished, Polled}
use Rattle.rtc_run_history.specs.declared.poll_end.PollEnd.TheVariants.{Ended}
use Rattle.rtc_run_history.specs.declared.shown.Shown.TheVariants.{Event}
use Rattle.rtc_run_history.specs.declared.table.Table.{Table}
use Rattle.rtc_run_history.specs.Answers.{waiting_row}
use Rattle.rtc_run_history.specs.Past.{Entry, MadeSdp, is_right, added_by, numbers_told}
use Rattle.rtc_run_history.specs.SaidRows.{MakesSdp}
use Rattle.rtc_run_history.proofs.WorkedEntries.{says, entry, plain, worked_head}
use Rattle.rtc_run_history.specs.Sound.{IsSound}

abbrev pub labelled : List ℕ → ChannelConfig
labelled label = record fresh { label = label }

abbrev pub offers_channel : Side → Step
offers_channel at = Negotiate at (AddChannel (labelled (codes "chat")) ∷ []) true

-- ---- both sides offer a channel, and accept each other's offer

abbrev pub left_mid : List ℕ
left_mid = codes "m3"

abbrev pub right_mid : List ℕ
right_mid = codes "m1000003"

abbrev pub crossed : List (Entry (Unit {0}))
crossed =
    entry (AcceptOffer Right 0) (Answered 3) (App 0 left_mid ∷ []) (0 ∷ []) (says Right false (App 0 left_mid ∷ []))
    ∷ entry (AcceptOffer Left 1) (Answered 2) (App 0 right_mid ∷ []) (0 ∷ []) (says Left false (App 0 right_mid ∷ []))
    ∷ entry (offers_channel Right) (Negotiated (Channel 0 ∷ []) (Offer 1)) [] (0 ∷ []) (says Right true (App 0 right_mid ∷ []))
    ∷ entry (offers_channel Left) (Negotiated (Channel 0 ∷ []) (Offer 0)) [] (0 ∷ []) (says Left true (App 0 left_mid ∷ []))
    ∷ []

-- the offer of a channel adds the line of data channels, with the mid that it says
crossed_line : added_by 0 0 crossed ≡ App 0 left_mid ∷ []
crossed_line = refl

-- accepting the other offer superseded the token
crossed_token : is_right Left 0 crossed ≡ false
crossed_token = refl

-- ---- a channel alone, once there is a line

abbrev with_line : List (Entry (Unit {0}))
with_line =
    entry (AcceptAnswer Left 0 1) Finished (App 0 left_mid ∷ []) (0 ∷ []) []
    ∷ entry (AcceptOffer Right 0) (Answered 1) (App 0 left_mid ∷ []) [] (says Right false (App 0 left_mid ∷ []))
    ∷ entry (offers_channel Left) (Negotiated (Channel 0 ∷ []) (Offer 0)) [] (0 ∷ []) (says Left true (App 0 left_mid ∷ []))
    ∷ []

abbrev more_audio : List (Entry (Unit {0}))
more_audio =
    entry (Negotiate Left (AddMedia Audio SendRecv ∷ []) true) (Negotiated (Mid (codes "m4") ∷ []) (Offer 2)) (App 0 left_mid ∷ []) (0 ∷ [])
    (says Left true (App 0 left_mid ∷ Media 1 (codes "m4") Audio SendRecv false false ∷ []))
    ∷ with_line

abbrev more_channels : List (Entry (Unit {0}))
more_channels = entry (offers_channel Left) (Negotiated (Channel 1 ∷ []) Nothing) (App 0 left_mid ∷ []) (0 ∷ 1 ∷ []) [] ∷ more_audio

-- it makes no offer
channel_alone : IsSound {E = Unit {0}} plain more_audio plain (offers_channel Left) (Negotiated (Channel 1 ∷ []) Nothing) (Some (record { lines = App 0 left_mid ∷ []; channels = waiting_row 0 ∷ waiting_row 1 ∷ [] })) []
channel_alone = (((refl, All-cons (λ number. number < 1) 0 [] (omega arith) (All-nil (λ number. number < 1))), tt, refl), tt, refl)

channel_alone_offered : (made : List MadeSdp) (table : Table) → IsSound {E = Unit {0}} plain more_audio plain (offers_channel Left) (Negotiated (Channel 1 ∷ []) (Offer 3)) (Some table) made → ⊥
channel_alone_offered made table sound = sound.1

-- it supersedes the token that was outstanding
token_before : is_right Left 2 more_audio ≡ true
token_before = refl

token_after : is_right Left 2 more_channels ≡ false
token_after = refl

-- ops that stage nothing supersede no token
token_kept : is_right Left 2 (entry (Negotiate Left [] true) (Negotiated [] Nothing) (App 0 left_mid ∷ []) (0 ∷ []) [] ∷ more_audio) ≡ true
token_kept = refl

-- a number is not given twice
number_again : (what : Made) (table : Table) (made : List MadeSdp) → IsSound {E = Unit {0}} plain more_audio plain (offers_channel Left) (Negotiated (Channel 0 ∷ []) what) (Some table) made → ⊥
number_again what table made sound = let same : 0 < 0 = All-head (λ number. number < 0) 0 [] sound.0.0.1 in absurd (omega arith)

-- ---- a channel that a poll tells to be open

abbrev opened : List (Entry (Unit {0}))
opened = entry (Poll Left) (Polled (Event (ChannelOpen 3 (codes "chat")) ∷ []) Ended) (App 0 left_mid ∷ []) (0 ∷ 3 ∷ []) [] ∷ with_line

-- its number is told like one that an op is answered
opened_told : numbers_told Left opened ≡ 3 ∷ 0 ∷ []
opened_told = refl

-- and the next channel has a number above it
opened_next : IsSound {E = Unit {0}} plain opened plain (offers_channel Left) (Negotiated (Channel 4 ∷ []) Nothing)
    (Some (record { lines = App 0 left_mid ∷ []; channels = waiting_row 0 ∷ waiting_row 3 ∷ waiting_row 4 ∷ [] })) []
opened_next =
    (((refl, All-cons (λ number. number < 4) 3 (0 ∷ []) (omega arith) (All-cons (λ number. number < 4) 0 [] (omega arith) (All-nil (λ number. number < 4)))), tt, refl), tt, refl)

opened_again : (what : Made) (table : Table) (made : List MadeSdp) → IsSound {E = Unit {0}} plain opened plain (offers_channel Left) (Negotiated (Channel 3 ∷ []) what) (Some table) made → ⊥
opened_again what table made sound = let same : 3 < 3 = All-head (λ number. number < 3) 3 (0 ∷ []) sound.0.0.1 in absurd (omega arith)

-- ---- a channel that is refused

-- a label that is too long gets no channel and no line, and there is nothing to offer
overlong : (label : List ℕ) → is_overlong label ≡ true
    → IsSound {E = Unit {0}} plain [] plain (Negotiate Left (AddChannel (labelled label) ∷ []) true) (Negotiated (BadChannel ∷ []) Nothing) (Some (record { lines = []; channels = [] })) []
overlong label long = ((rw long refl, refl), tt, refl)

offer_is : (one other : Sdp) → ◌≡◌ {A = List MadeSdp} (record { at = Left; offer = true; sdp = one } ∷ []) (record { at = Left; offer = true; sdp = other } ∷ []) → one ≡ other
offer_is one other same = let e : one ∷ [] ≡ other ∷ [] = ap (map (λ (made : MadeSdp). made.sdp)) same in cc

none_said : (lines : List ParsedLine) (line : ParsedLine) → lines ≡ [] → lines ≡ line ∷ [] → ⊥
none_said lines line none one = absurd (cc)

-- a channel that is offered needs a line of data channels in the offer
line_missing : MakesSdp {E = Unit {0}} (offers_channel Left) (Negotiated (Channel 0 ∷ []) (Offer 0)) (Some (record { lines = []; channels = waiting_row 0 ∷ [] })) (says Left true []) → ⊥
line_missing made = none_said (parsed_lines made.sdp) _ (ap parsed_lines (sym (offer_is (sdp_of_rows worked_head []) made.sdp made.one))) made.says
