-- What is staged is applied where that is asked.
use Rattle.std.proofs.Common.{◌≡◌, List, length, Bool, true, false, not, ◌&&◌, Option, Some, None, Ok, Err, Result, sym, ◌∙◌, subst, ap, arith}
use Rattle.std.specs.declared.alloc.AllocError.{AllocError}
use Rattle.rtc_lines.specs.declared.sdp_offer.SdpOffer.{SdpOffer}
use Rattle.rtc_change.specs.PendingOffer.{PendingOffer}
use Rattle.rtc_peer_core.specs.declared.peer.Peer.{Peer}
use Rattle.rtc_peer_core.specs.Calls.{Applies, LacksOffer}
use Rattle.rtc_peer_core.specs.SdpHalves.{draws_half}
use Rattle.rtc_peer_core.specs.Stance.{stance_of}
use Rattle.rtc_peer.specs.Described.{sdp_of_offer}
use Rattle.rtc_run_history.specs.declared.op.Op.{Op}
use Rattle.rtc_run_history.specs.declared.op_answer.OpAnswer.{OpAnswer}
use Rattle.rtc_run_history.specs.Memory.{answers_lack}
use Rattle.rtc_run_history.specs.Performs.{PerformsOps, lent}
use Rattle.rtc_run_steps.specs.declared.applied.Applied.{Applied}
use Rattle.rtc_run_steps.specs.declared.applied.Applied.TheVariants.{NotAsked, Nothing, Offer, Alloc}
use Rattle.rtc_run_steps.specs.Stages.{Stages, Becomes}
use Rattle.rtc_run_steps.proofs.ChannelCounts.{ops_channels, ops_rows, alone_channels, alone_lines}
use Rattle.rtc_peer_core.specs.Meanings.{Meanings}

module _ {I D S M E X T W N : Type 0} (m : Meanings I D S M E X T W N) where
  -- where memory ran out as an offer was made, lines and channels are as they were
  lacking_rows : (draws : Bool) (p q : Peer I D S M N) → LacksOffer m draws p q → length q.lines ≡ length p.lines
  lacking_rows true p q h = ap (λ r. length r.lines) h.1
  lacking_rows false p q h = ap (λ r. length r.lines) h

  lacking_channels : (draws : Bool) (p q : Peer I D S M N) → LacksOffer m draws p q → length q.channels.rows ≡ length p.channels.rows
  lacking_channels true p q h = ap (λ r. length r.channels.rows) h.1
  lacking_channels false p q h = ap (λ r. length r.channels.rows) h

  -- what is made of staged changes keeps the number of rows
  becomes_rows : (asked : Bool) (p q : Peer I D S M N) (applied : Applied) → Becomes m asked p applied q → length q.lines ≡ length p.lines
  becomes_rows false p q NotAsked h = ap (λ r. length r.lines) h
  becomes_rows true p q Nothing h = ap (λ r. length r.lines) h.1 ∙ ap length (alone_lines p.staged p)
  becomes_rows true p q (Offer offer token) h = ap (λ r. length r.lines) h.4
  becomes_rows true p q Alloc h = lacking_rows (draws_half (stance_of m p)) p q h
  becomes_rows asked p q applied h = absurd h

  -- and that of channels
  becomes_channels : (asked : Bool) (p q : Peer I D S M N) (applied : Applied) → Becomes m asked p applied q → length q.channels.rows ≡ length p.channels.rows
  becomes_channels false p q NotAsked h = ap (λ r. length r.channels.rows) h
  becomes_channels true p q Nothing h = ap (λ r. length r.channels.rows) h.1 ∙ alone_channels p.staged p
  becomes_channels true p q (Offer offer token) h = ap (λ r. length r.channels.rows) h.4
  becomes_channels true p q Alloc h = lacking_channels (draws_half (stance_of m p)) p q h
  becomes_channels asked p q applied h = absurd h

  stages : (old p between q : Peer I D S M N) (ops : List Op) (apply asked : Bool) (answers slice : List OpAnswer) (applied : Applied) → p ≡ lent old → PerformsOps m p ops answers between → slice ≡ answers → asked ≡ (apply && not (answers_lack slice)) → Becomes m asked between applied q → Stages m old ops apply answers applied q
  stages old p between q ops apply asked answers slice applied p_is performs slice_is asked_is becomes =
      let F : List OpAnswer → Bool = λ (xs : List OpAnswer). apply && not (answers_lack xs) in
      let here : PerformsOps m (lent old) ops answers between = subst (λ (x : Peer I D S M N). PerformsOps m x ops answers between) p_is performs in
      let then : Becomes m (apply && not (answers_lack answers)) between applied q = subst (λ (b : Bool). Becomes m b between applied q) (asked_is ∙ ap F slice_is) becomes in
      let told : length q.channels.rows ≡ length between.channels.rows = becomes_channels (apply && not (answers_lack answers)) between q applied then in
      record {
        between = between;
        performs = here;
        becomes = then;
        rows = becomes_rows (apply && not (answers_lack answers)) between q applied then ∙ ops_rows m (lent old) between ops answers here;
        channels = omega (arith, told, ops_channels m (lent old) between ops answers here);
      }

  pub stages_not : (old p between q : Peer I D S M N) (ops : List Op) (apply : Bool) (answers slice : List OpAnswer) → p ≡ lent old → PerformsOps m p ops answers between → slice ≡ answers → false ≡ (apply && not (answers_lack slice)) → q ≡ between → Stages m old ops apply answers NotAsked q
  stages_not old p between q ops apply answers slice p_is performs slice_is asked_is same =
      stages old p between q ops apply false answers slice NotAsked p_is performs slice_is asked_is same

  pub stages_offer : (old p between r q : Peer I D S M N) (ops : List Op) (apply : Bool) (answers slice : List OpAnswer) (result : Result (Option (SdpOffer × PendingOffer)) AllocError) (made : Option (SdpOffer × PendingOffer)) (offer : SdpOffer) (token : PendingOffer) → p ≡ lent old → PerformsOps m p ops answers between → slice ≡ answers → true ≡ (apply && not (answers_lack slice)) → result ≡ Ok made → made ≡ Some (offer, token) → Applies m between (sdp_of_offer result) r → q ≡ r → Stages m old ops apply answers (Offer offer token) q
  stages_offer old p between r q ops apply answers slice result made offer token p_is performs slice_is asked_is result_is made_is applies same =
      let F : Result (Option (SdpOffer × PendingOffer)) AllocError → Type 0 = λ (x : Result (Option (SdpOffer × PendingOffer)) AllocError). Applies m between (sdp_of_offer x) r in
      let G : Peer I D S M N → Type 0 = λ (x : Peer I D S M N). Applies m between (Ok (Some (offer.0, token))) x in
      stages old p between q ops apply true answers slice (Offer offer token) p_is performs slice_is asked_is (subst G (sym same) (subst F (result_is ∙ ap Ok made_is) applies))

  pub stages_nothing : (old p between r q : Peer I D S M N) (ops : List Op) (apply : Bool) (answers slice : List OpAnswer) (result : Result (Option (SdpOffer × PendingOffer)) AllocError) (made : Option (SdpOffer × PendingOffer)) → p ≡ lent old → PerformsOps m p ops answers between → slice ≡ answers → true ≡ (apply && not (answers_lack slice)) → result ≡ Ok made → made ≡ None → Applies m between (sdp_of_offer result) r → q ≡ r → Stages m old ops apply answers Nothing q
  stages_nothing old p between r q ops apply answers slice result made p_is performs slice_is asked_is result_is made_is applies same =
      let F : Result (Option (SdpOffer × PendingOffer)) AllocError → Type 0 = λ (x : Result (Option (SdpOffer × PendingOffer)) AllocError). Applies m between (sdp_of_offer x) r in
      let G : Peer I D S M N → Type 0 = λ (x : Peer I D S M N). Applies m between (Ok None) x in
      stages old p between q ops apply true answers slice Nothing p_is performs slice_is asked_is (subst G (sym same) (subst F (result_is ∙ ap Ok made_is) applies))

  pub stages_alloc : (old p between r q : Peer I D S M N) (ops : List Op) (apply : Bool) (answers slice : List OpAnswer) (result : Result (Option (SdpOffer × PendingOffer)) AllocError) (e : AllocError) → p ≡ lent old → PerformsOps m p ops answers between → slice ≡ answers → true ≡ (apply && not (answers_lack slice)) → result ≡ Err e → Applies m between (sdp_of_offer result) r → q ≡ r → Stages m old ops apply answers Alloc q
  stages_alloc old p between r q ops apply answers slice result e p_is performs slice_is asked_is result_is applies same =
      let F : Result (Option (SdpOffer × PendingOffer)) AllocError → Type 0 = λ (x : Result (Option (SdpOffer × PendingOffer)) AllocError). Applies m between (sdp_of_offer x) r in
      let G : Peer I D S M N → Type 0 = λ (x : Peer I D S M N). Applies m between (Err e) x in
      stages old p between q ops apply true answers slice Alloc p_is performs slice_is asked_is (subst G (sym same) (subst F result_is applies))
