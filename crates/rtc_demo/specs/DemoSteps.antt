-- The steps of a demo: a seed determines rounds of offer and answer (RFC 3264, section 4), one after the other.
use Rattle.std.specs.Prelude.{◌+◌, ◌*◌, ◌/◌, ◌%◌, ◌^◌, ◌==◌, ℕ, zero, suc, true, List, [], ◌∷◌, ◌++◌, codes, if◌then◌else◌}
use Rattle.std.specs.Fmt.{decimal}
use Rattle.rtc_wire.specs.ChannelConfig.{fresh}
use Rattle.rtc_wire.specs.declared.channel_config.ChannelConfig.{ChannelConfig}
use Rattle.rtc_sdp_values.specs.declared.direction.Direction.{Direction}
use Rattle.rtc_sdp_values.specs.declared.direction.Direction.TheVariants.{SendRecv, SendOnly, RecvOnly, Inactive}
use Rattle.rtc_sdp_values.specs.declared.media_kind.MediaKind.TheVariants.{Audio, Video}
use Rattle.rtc_run_history.specs.Sides.{other_side}
use Rattle.rtc_run_history.specs.declared.op.Op.{Op}
use Rattle.rtc_run_history.specs.declared.op.Op.TheVariants.{AddMedia, SetDirection, StopMedia, AddChannel, IceRestart}
use Rattle.rtc_run_history.specs.declared.side.Side.{Side}
use Rattle.rtc_run_history.specs.declared.side.Side.TheVariants.{Left, Right}
use Rattle.rtc_run_history.specs.declared.step.Step.{Step}
use Rattle.rtc_run_history.specs.declared.step.Step.TheVariants.{Negotiate, AcceptOffer, AcceptAnswer}

-- the number z that determines a round, from the seed and the number of the round
unfoldable pub scrambled : ℕ → ℕ → ℕ
scrambled seed round = (((seed + round) % 2 ^ 32) * 2654435761) % 2 ^ 32

-- which side offers in a round
unfoldable pub offerer : ℕ → Side
offerer z = if z % 2 == 0 then Left else Right

-- the directions by their numbers from 0 to 3
abbrev pub direction_numbered : ℕ → Direction
direction_numbered n = if n == 0 then SendRecv else if n == 1 then SendOnly else if n == 2 then RecvOnly else Inactive

-- the line that a round adds: in the first round it is audio in both directions
unfoldable pub line_added : ℕ → ℕ → Op
line_added round z =
    if round == 0 then AddMedia Audio SendRecv
    else AddMedia (if (z / 2) % 2 == 0 then Audio else Video) (direction_numbered ((z / 4) % 4))

-- the place at which a round may change a line, from 1 to 100; if no media line is there, the change does nothing
unfoldable pub round_place : ℕ → ℕ
round_place z = 1 + (z / 128) % 100

-- a channel labelled with c and the number of the round
abbrev pub round_channel : ℕ → ChannelConfig
round_channel round = record fresh { label = codes "c" ++ decimal round }

-- what the offerer does besides, by a number from 0 to 4: nothing; it sets a direction, or stops a line, at the place of the round; adds
-- a channel; or restarts ICE and keeps its candidates
unfoldable pub besides : ℕ → ℕ → ℕ → List Op
besides n round z =
    if n == 0 then []
    else if n == 1 then SetDirection (round_place z) (direction_numbered ((z / 16384) % 4)) ∷ []
    else if n == 2 then StopMedia (round_place z) ∷ []
    else if n == 3 then AddChannel (round_channel round) ∷ []
    else IceRestart true ∷ []

-- what the offerer asks for in a round
unfoldable pub round_ops : ℕ → ℕ → List Op
round_ops round z = line_added round z ∷ besides ((z / 16) % 5) round z

-- a round: an offer, its acceptance by the other side, and the acceptance of that answer; each round before it made two descriptions
abbrev pub steps_between : Side → List Op → ℕ → List Step
steps_between at ops sdps =
    Negotiate at ops true ∷ AcceptOffer (other_side at) sdps ∷ AcceptAnswer at sdps (sdps + 1) ∷ []

unfoldable pub round_steps : ℕ → ℕ → List Step
round_steps seed round =
    steps_between (offerer (scrambled seed round)) (round_ops round (scrambled seed round)) (2 * round)

-- so many rounds, numbered from 0
abbrev pub demo_steps : ℕ → ℕ → List Step
demo_steps zero seed = []
demo_steps (suc rounds) seed = demo_steps rounds seed ++ round_steps seed rounds
