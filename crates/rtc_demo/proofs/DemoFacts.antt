-- The first rounds of some demos, computed.
use Rattle.std.proofs.Common.{◌≡◌, ℕ, true, [], ◌∷◌, ◌++◌, codes, refl}
use Rattle.std.specs.Fmt.{decimal}
use Rattle.rtc_wire.specs.ChannelConfig.{fresh}
use Rattle.rtc_sdp_values.specs.declared.direction.Direction.TheVariants.{SendRecv, SendOnly}
use Rattle.rtc_sdp_values.specs.declared.media_kind.MediaKind.TheVariants.{Audio, Video}
use Rattle.rtc_run_history.specs.declared.op.Op.TheVariants.{AddMedia, SetDirection, StopMedia, AddChannel, IceRestart}
use Rattle.rtc_run_history.specs.declared.side.Side.TheVariants.{Left, Right}
use Rattle.rtc_run_history.specs.declared.step.Step.TheVariants.{Negotiate, AcceptOffer, AcceptAnswer}
use Rattle.rtc_demo.specs.DemoSteps.{scrambled, offerer, line_added, round_place, besides, round_ops, round_steps, demo_steps}

-- the sum with the seed starts anew at 2 ^ 32, and so does the product
scrambled_again : scrambled 4294967295 1 ≡ 0
unfolding scrambled
scrambled_again = refl

scrambled_far : scrambled 0 5 ≡ 387276917
unfolding scrambled
scrambled_far = refl

-- a line alone, and then one of the other side
two_rounds :
    demo_steps 2 0
    ≡ Negotiate Left (AddMedia Audio SendRecv ∷ []) true ∷ AcceptOffer Right 0 ∷ AcceptAnswer Left 0 1
    ∷ Negotiate Right (AddMedia Audio SendRecv ∷ []) true ∷ AcceptOffer Left 2 ∷ AcceptAnswer Right 2 3 ∷ []
unfolding scrambled offerer line_added besides round_ops round_steps
two_rounds = refl

-- a restart of ICE
third_round : round_steps 0 2 ≡ Negotiate Left (AddMedia Video SendRecv ∷ IceRestart true ∷ []) true ∷ AcceptOffer Right 4 ∷ AcceptAnswer Left 4 5 ∷ []
unfolding scrambled offerer line_added besides round_ops round_steps
third_round = refl

-- a channel
fifth_round :
    round_steps 0 4
    ≡ Negotiate Left (AddMedia Audio SendOnly ∷ AddChannel (record fresh { label = codes "c" ++ decimal 4 }) ∷ []) true ∷ AcceptOffer Right 8 ∷ AcceptAnswer Left 8 9 ∷ []
unfolding scrambled offerer line_added besides round_ops round_steps
fifth_round = refl

-- a line that is stopped, the second one
sixth_round : round_steps 0 5 ≡ Negotiate Right (AddMedia Audio SendOnly ∷ StopMedia 1 ∷ []) true ∷ AcceptOffer Left 10 ∷ AcceptAnswer Right 10 11 ∷ []
unfolding scrambled offerer line_added round_place besides round_ops round_steps
sixth_round = refl

-- a direction that is set, at a place where no line stands yet
eighth_round : round_steps 0 7 ≡ Negotiate Right (AddMedia Video SendOnly ∷ SetDirection 28 SendOnly ∷ []) true ∷ AcceptOffer Left 14 ∷ AcceptAnswer Right 14 15 ∷ []
unfolding scrambled offerer line_added round_place besides round_ops round_steps
eighth_round = refl

-- whatever the seed, the first round adds audio in both directions
first_line : (z : ℕ) → line_added 0 z ≡ AddMedia Audio SendRecv
unfolding line_added
first_line z = refl
