-- What is left behind an accepted list and behind a refused one, by the laws of Back; demand 3 follows from what is left.
use Rattle.std.proofs.Common.{refl, ◌∙◌, length}
use Rattle.walks.specs.Records.{bytes_of}
use Rattle.roundtrip.proofs.Behind.{stood, front}
use Rattle.roundtrip.proofs.Back.{refused_all, read_all, E}
use Rattle.roundtrip.proofs.round_trip.Goals as goal

pub returns-in-Ok-clause-round_trip : goal.returns-in-Ok-clause-round_trip
returns-in-Ok-clause-round_trip c =
    let a = c.args in
    let l = a.layout.now in
    let v = a.list.now in
    let n = length a.record.now in
    let w = length a.counts.now in
    let bs = bytes_of (E l.words.now l.masks.now l.page v.items.now v.text.now a.behind.now n w) in
    let e = c.in-Ok.ensures in
    let p = c.put_behind-end.ensures in
    (read_all l.words.now l.masks.now l.page v.items.now v.text.now a.behind.now n w a.record.now a.back.now a.said.now a.counts.now refl refl _ _ e c.encode_record.auto.counts
    (p.record_after ∙ stood n bs a.behind.now _ _ _ e.record_left c.encode_record.auto.record e.record_bytes p.value) _
    (front n bs a.behind.now _ _ _ e.record_left c.encode_record.auto.record e.record_bytes p.value _ p.record_after)
    c.decode_record-read.ensures c.decode_record-read.auto.items c.decode_record-read.auto.text).0

pub returns-in-Ok-clause-returns : goal.returns-in-Ok-clause-returns
returns-in-Ok-clause-returns c =
    let a = c.args in
    let l = a.layout.now in
    let v = a.list.now in
    let n = length a.record.now in
    let w = length a.counts.now in
    let bs = bytes_of (E l.words.now l.masks.now l.page v.items.now v.text.now a.behind.now n w) in
    let e = c.in-Ok.ensures in
    let p = c.put_behind-end.ensures in
    (read_all l.words.now l.masks.now l.page v.items.now v.text.now a.behind.now n w a.record.now a.back.now a.said.now a.counts.now refl refl _ _ e c.encode_record.auto.counts
    (p.record_after ∙ stood n bs a.behind.now _ _ _ e.record_left c.encode_record.auto.record e.record_bytes p.value) _
    (front n bs a.behind.now _ _ _ e.record_left c.encode_record.auto.record e.record_bytes p.value _ p.record_after)
    c.decode_record-read.ensures c.decode_record-read.auto.items c.decode_record-read.auto.text).1

pub returns-in-Err-clause-round_trip : goal.returns-in-Err-clause-round_trip
returns-in-Err-clause-round_trip c =
    let a = c.args in
    let l = a.layout.now in
    let v = a.list.now in
    let n = length a.record.now in
    let w = length a.counts.now in
    (refused_all l.words.now l.masks.now l.page v.items.now v.text.now a.behind.now n w a.record.now a.back.now a.said.now a.counts.now refl refl _ _ c.in-Err.ensures c.clear.ensures.items_after c.clear.ensures.text_after).0

pub returns-in-Err-clause-returns : goal.returns-in-Err-clause-returns
returns-in-Err-clause-returns c =
    let a = c.args in
    let l = a.layout.now in
    let v = a.list.now in
    let n = length a.record.now in
    let w = length a.counts.now in
    (refused_all l.words.now l.masks.now l.page v.items.now v.text.now a.behind.now n w a.record.now a.back.now a.said.now a.counts.now refl refl _ _ c.in-Err.ensures c.clear.ensures.items_after c.clear.ensures.text_after).1
