use Rattle.std.proofs.Common.{◌||◌, Bool, nat_eq, sym, ap, subst, ◌∙◌, arith}
use Rattle.rtc_plain_media.specs.declared.stream_row.StreamRow.{StreamRow}
use Rattle.rtc_plain_media.specs.declared.stream_name.StreamName.{StreamName}
use Rattle.rtc_plain_media.specs.StreamIndex.{same_name, stream_name, uses_number, PutsPlace}
use Rattle.rtc_plain_media.proofs.PlaceLemmas.{place_added, any_appended}
use Rattle.rtc_plain_media.proofs.stream_index.StreamIndex.add.Goals as goal

pub returns-clause-found : goal.returns-clause-found
returns-clause-found c = λ before last held.
    let old = c.args.self.now in
    let row = c.args.row.now in
    let named = subst (λ (k : StreamName). PutsPlace same_name (record { line = k.line; layer = k.layer }) c.args.at old.names c.put_name.new.names) c.of_row-name.ensures c.put_name.ensures.put in
    record {
      places = place_added nat_eq old.places c.put_place.new.places (λ (r : StreamRow). r.ssrc.0) before row c.args.at last held.places c.put_place.ensures.put;
      names = place_added same_name old.names c.put_name.new.names (λ (r : StreamRow). stream_name r.mid r.rid) before row c.args.at last held.names named;
      numbers = λ n. c.put_numbers.ensures.put n ∙ ap (λ (b : Bool). b || uses_number n row) (held.numbers n) ∙ sym (any_appended (uses_number n) before row);
    }

pub returns-clause-room : goal.returns-clause-room
returns-clause-room c = record {
  spare = λ count room. record {
    places = omega (arith, room.places, c.put_place.ensures.room.0);
    names = omega (arith, room.names, c.put_name.ensures.room.0);
    numbers = omega (arith, room.numbers, c.put_numbers.ensures.spare);
  };
  fits = λ count fits. record {
    places = omega (arith, fits.places, c.put_place.ensures.room.1);
    names = omega (arith, fits.names, c.put_name.ensures.room.1);
    numbers = omega (arith, fits.numbers, c.put_numbers.ensures.room);
  };
}
