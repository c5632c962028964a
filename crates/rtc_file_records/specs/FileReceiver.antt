-- A receiver, seen by its callers.
use Rattle.rtc_file_records.specs.declared.file_receiver.FileReceiver.TheInside.{Inside}
use Rattle.rtc_file_records.specs.Receiving.{ReceivedFile}

abbrev pub received_of : Inside → ReceivedFile
received_of inside = record { announced = inside.announced; begun = inside.begun; held = inside.held.items; whole = inside.whole }
