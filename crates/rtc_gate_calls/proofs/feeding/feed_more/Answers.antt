use Rattle.std.proofs.Common.{◌≡◌, ℕ, ◌+◌, ◌<◌, ◌^◌, ◌∙◌, ◌++◌, true, false, List, length, map, Option, ap, subst, arith, length-append}
use Rattle.std.specs.Prelude.{IsSomeAnd}
use Rattle.rtc_gate_calls.specs.GateState.{ConnectionState}
use Rattle.rtc_gate_calls.specs.Delivering.{parcel_of, connection_changed_at, with_piece, cut_to, advanced, after_parcels, Sorts}
use Rattle.rtc_gate_calls.proofs.ConnectionLemmas.{got}
use Rattle.rtc_gate_calls.proofs.FeedLemmas.{can_still, standing, kept_there, few_placed, forgotten, fed_all, delivered_at, can_advance, answers_stuck, answers_count}
use Rattle.rtc_gate_calls.proofs.feeding.feed_more.Goals as goal

pub sort_kept-requires : goal.sort_kept-requires
sort_kept-requires c = can_still _ _ _ c.args.sender.now c.args.sender.now.number c.args.piece.now c.in_ok-keep_at.ensures.ok c.requires.can

pub cut_at-requires : goal.cut_at-requires
cut_at-requires c =
    let can = can_still c.args.connections.now _ c.args.names.now c.args.sender.now c.args.sender.now.number c.args.piece.now c.in_ok-keep_at.ensures.ok c.requires.can in
    record { numbered = can.numbered; there = can.there }

pub returns-in_default : goal.returns-in_default
returns-in_default c = λ conn at flows.
    let P : Option ConnectionState → Type 0 = λ (o : Option ConnectionState). IsSomeAnd o (λ d. d.number ≡ c.args.sender.now.number) in
    let its : conn.number ≡ c.args.sender.now.number = subst P at c.requires.can.there in
    let kept : length c.kept-kept.result.now ≡ length conn.incoming.kept = ap length c.kept-kept.ensures ∙ ap (λ (d : ConnectionState). length d.incoming.kept) (got c.args.connections.now c.args.sender.now.place conn _ at) in
    c.cut_at.ensures
    ∙ ap (map (connection_changed_at c.args.sender.now.number (cut_to (length c.kept-kept.result.now)))) c.in_ok-keep_at.ensures.ok
    ∙ ap (λ (n : ℕ). map (connection_changed_at c.args.sender.now.number (cut_to n)) (map (connection_changed_at c.args.sender.now.number (with_piece c.args.piece.now)) c.args.connections.now)) kept
    ∙ forgotten c.args.connections.now c.args.sender.now.place c.args.sender.now.number conn c.args.piece.now c.requires.can.numbered at its

pub overflow_cast-count : goal.overflow_cast-count
overflow_cast-count c =
    let s = standing c.args.connections.now c.args.sender.now.place (λ d. d.number ≡ c.args.sender.now.number) c.requires.can.there in
    let sorts : Sorts _ c.args.sender.now (s.0.incoming.kept ++ c.args.piece.now) c.in-Ok.sorted = c.in-Ok.ensures (with_piece c.args.piece.now s.0) (kept_there _ _ c.args.sender.now.place c.args.sender.now.number s.0 c.args.piece.now c.in_ok-keep_at.ensures.ok s.1 s.2) in
    let few : length c.in-Ok.sorted.deliveries.items < 2 ^ 32 = sorts.few in
    grind (arith, c.len-count.ensures)

pub deliver-requires : goal.deliver-requires
deliver-requires c =
    let s = standing c.args.connections.now c.args.sender.now.place (λ d. d.number ≡ c.args.sender.now.number) c.requires.can.there in
    let sorts : Sorts _ c.args.sender.now (s.0.incoming.kept ++ c.args.piece.now) c.in-Ok.sorted = c.in-Ok.ensures (with_piece c.args.piece.now s.0) (kept_there _ _ c.args.sender.now.place c.args.sender.now.number s.0 c.args.piece.now c.in_ok-keep_at.ensures.ok s.1 s.2) in
    let few : length c.in-Ok.sorted.deliveries.items < 2 ^ 32 = sorts.few in
    let can = can_still c.args.connections.now _ c.args.names.now c.args.sender.now c.args.sender.now.number c.args.piece.now c.in_ok-keep_at.ensures.ok c.requires.can in
    record { numbered = can.numbered; each = few_placed _ (2 ^ 62) _ _ (omega arith) sorts.each }

pub advance_at-requires-clause-there : goal.advance_at-requires-clause-there
advance_at-requires-clause-there c =
    let can = can_still c.args.connections.now _ c.args.names.now c.args.sender.now c.args.sender.now.number c.args.piece.now c.in_ok-keep_at.ensures.ok c.requires.can in
    delivered_at _ _ _ _ (map parcel_of c.in-Ok.sorted.deliveries.items) c.deliver.ensures (record { numbered = can.numbered; there = can.there })

pub advance_at-requires-clause-fits : goal.advance_at-requires-clause-fits
advance_at-requires-clause-fits c =
    let s = standing c.args.connections.now c.args.sender.now.place (λ d. d.number ≡ c.args.sender.now.number) c.requires.can.there in
    let at = kept_there _ c.keep_at.new.connections c.args.sender.now.place c.args.sender.now.number s.0 c.args.piece.now c.in_ok-keep_at.ensures.ok s.1 s.2 in
    let sorts : Sorts _ c.args.sender.now (s.0.incoming.kept ++ c.args.piece.now) c.in-Ok.sorted = c.in-Ok.ensures (with_piece c.args.piece.now s.0) at in
    let P : Option ConnectionState → Type 0 = λ (o : Option ConnectionState). IsSomeAnd o (λ d. (d.name ≡ c.args.sender.now.name) × (d.incoming.done + length d.incoming.kept + length c.args.piece.now < 2 ^ 64)) in
    let room : (s.0.name ≡ c.args.sender.now.name) × (s.0.incoming.done + length s.0.incoming.kept + length c.args.piece.now < 2 ^ 64) = subst P s.1 c.requires.room in
    can_advance _ _ _ (map parcel_of c.in-Ok.sorted.deliveries.items) (with_piece c.args.piece.now s.0) c.in-Ok.sorted.size c.deliver.ensures at sorts.within (omega (arith, room.1, sorts.within, length-append s.0.incoming.kept c.args.piece.now))

pub overflow_add-result : goal.overflow_add-result
overflow_add-result c =
    let s = standing c.args.connections.now c.args.sender.now.place (λ d. d.number ≡ c.args.sender.now.number) c.requires.can.there in
    let at = kept_there _ c.keep_at.new.connections c.args.sender.now.place c.args.sender.now.number s.0 c.args.piece.now c.in_ok-keep_at.ensures.ok s.1 s.2 in
    let sorts : Sorts _ c.args.sender.now (s.0.incoming.kept ++ c.args.piece.now) c.in-Ok.sorted = c.in-Ok.ensures (with_piece c.args.piece.now s.0) at in
    let P : Option ConnectionState → Type 0 = λ (o : Option ConnectionState). IsSomeAnd o (λ d. (d.name ≡ c.args.sender.now.name) × (d.incoming.done + length d.incoming.kept + length c.args.piece.now < 2 ^ 64)) in
    let room : (s.0.name ≡ c.args.sender.now.name) × (s.0.incoming.done + length s.0.incoming.kept + length c.args.piece.now < 2 ^ 64) = subst P s.1 c.requires.room in
    let done : c.done-done.result ≡ s.0.incoming.done = c.done-done.ensures ∙ ap (λ (d : ConnectionState). d.incoming.done) (got c.args.connections.now c.args.sender.now.place s.0 _ s.1) in
    let fits : c.done-done.result + c.in-Ok.sorted.size < 2 ^ 64 = omega (arith, room.1, sorts.within, length-append s.0.incoming.kept c.args.piece.now) in
    omega arith

pub returns-then-stuck : goal.returns-then-stuck
returns-then-stuck c = λ conn at flows.
    let P : Option ConnectionState → Type 0 = λ (o : Option ConnectionState). IsSomeAnd o (λ d. d.number ≡ c.args.sender.now.number) in
    let its : conn.number ≡ c.args.sender.now.number = subst P at c.requires.can.there in
    let Q : Option ConnectionState → Type 0 = λ (o : Option ConnectionState). IsSomeAnd o (λ d. (d.name ≡ c.args.sender.now.name) × (d.incoming.done + length d.incoming.kept + length c.args.piece.now < 2 ^ 64)) in
    let room : (conn.name ≡ c.args.sender.now.name) × (conn.incoming.done + length conn.incoming.kept + length c.args.piece.now < 2 ^ 64) = subst Q at c.requires.room in
    let there = kept_there _ c.keep_at.new.connections c.args.sender.now.place c.args.sender.now.number conn c.args.piece.now c.in_ok-keep_at.ensures.ok at its in
    let sorts : Sorts c.keep_at.new.connections c.args.sender.now (conn.incoming.kept ++ c.args.piece.now) c.in-Ok.sorted = c.in-Ok.ensures (with_piece c.args.piece.now conn) there in
    let sorts' : Sorts (map (connection_changed_at c.args.sender.now.number (with_piece c.args.piece.now)) c.args.connections.now) c.args.sender.now (conn.incoming.kept ++ c.args.piece.now) c.in-Ok.sorted =
    subst (λ (cs : List ConnectionState). Sorts cs c.args.sender.now (conn.incoming.kept ++ c.args.piece.now) c.in-Ok.sorted) c.in_ok-keep_at.ensures.ok sorts in
    let done : c.done-done.result ≡ conn.incoming.done = c.done-done.ensures ∙ ap (λ (d : ConnectionState). d.incoming.done) (got c.args.connections.now c.args.sender.now.place conn _ at) in
    let says = answers_stuck conn _ c.args.sender.now c.args.piece.now c.in-Ok.sorted flows sorts c.if-stuck.true in (
      rw done says,
      c.advance_at.ensures
          ∙ ap (map (connection_changed_at c.args.sender.now.number (advanced c.in-Ok.sorted.size c.in-Ok.sorted.stuck))) (c.deliver.ensures ∙ ap (map (after_parcels (map parcel_of c.in-Ok.sorted.deliveries.items))) c.in_ok-keep_at.ensures.ok)
          ∙ fed_all c.args.connections.now c.args.sender.now conn c.args.piece.now c.in-Ok.sorted c.requires.can.numbered at its room.0 flows sorts',
    )

pub returns-else-stuck : goal.returns-else-stuck
returns-else-stuck c = λ conn at flows.
    let P : Option ConnectionState → Type 0 = λ (o : Option ConnectionState). IsSomeAnd o (λ d. d.number ≡ c.args.sender.now.number) in
    let its : conn.number ≡ c.args.sender.now.number = subst P at c.requires.can.there in
    let Q : Option ConnectionState → Type 0 = λ (o : Option ConnectionState). IsSomeAnd o (λ d. (d.name ≡ c.args.sender.now.name) × (d.incoming.done + length d.incoming.kept + length c.args.piece.now < 2 ^ 64)) in
    let room : (conn.name ≡ c.args.sender.now.name) × (conn.incoming.done + length conn.incoming.kept + length c.args.piece.now < 2 ^ 64) = subst Q at c.requires.room in
    let there = kept_there _ c.keep_at.new.connections c.args.sender.now.place c.args.sender.now.number conn c.args.piece.now c.in_ok-keep_at.ensures.ok at its in
    let sorts : Sorts c.keep_at.new.connections c.args.sender.now (conn.incoming.kept ++ c.args.piece.now) c.in-Ok.sorted = c.in-Ok.ensures (with_piece c.args.piece.now conn) there in
    let sorts' : Sorts (map (connection_changed_at c.args.sender.now.number (with_piece c.args.piece.now)) c.args.connections.now) c.args.sender.now (conn.incoming.kept ++ c.args.piece.now) c.in-Ok.sorted =
    subst (λ (cs : List ConnectionState). Sorts cs c.args.sender.now (conn.incoming.kept ++ c.args.piece.now) c.in-Ok.sorted) c.in_ok-keep_at.ensures.ok sorts in
    let says = answers_count conn _ c.args.sender.now c.args.piece.now c.in-Ok.sorted flows sorts c.if-stuck.false in
    let count : c.len-count.result ≡ length c.in-Ok.sorted.deliveries.items = grind (arith, c.len-count.ensures) in (
      rw count says,
      c.advance_at.ensures
          ∙ ap (map (connection_changed_at c.args.sender.now.number (advanced c.in-Ok.sorted.size c.in-Ok.sorted.stuck))) (c.deliver.ensures ∙ ap (map (after_parcels (map parcel_of c.in-Ok.sorted.deliveries.items))) c.in_ok-keep_at.ensures.ok)
          ∙ fed_all c.args.connections.now c.args.sender.now conn c.args.piece.now c.in-Ok.sorted c.requires.can.numbered at its room.0 flows sorts',
    )
