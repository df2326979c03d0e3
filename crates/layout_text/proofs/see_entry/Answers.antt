-- One sight of a name after the other (`one_name`, `two-names`), each as `see` ensures it.
use Rattle.std.proofs.Common.{ap}
use borrow.Author.Rules.{rules}
use Rattle.layout_text.proofs.Sights.{number_small, one_name, two-names, some_bound}
use Rattle.layout_text.proofs.see_entry.Goals as goal

pub overflow_cast-result : goal.overflow_cast-result
overflow_cast-result c =
    let t = c.args.table.now in
    let n = number_small t.text.now t.starts.now t.count c.args.name c.see-number.result c.see-number.ensures.number in
    search rules

pub returns-in-None-clause-starts_after : goal.returns-in-None-clause-starts_after
returns-in-None-clause-starts_after c =
    let t = c.args.table.now in
    let s = c.see-number in
    rw c.in-None.is (one_name t.text.now t.starts.now t.count c.args.name c.requires.count_in_bounds c.requires.name_bound s.result s.new.self.count _ s.ensures.number s.ensures.count s.ensures.starts).starts_after

pub overflow_cast-result-in-Some : goal.overflow_cast-result-in-Some
overflow_cast-result-in-Some c =
    let t = c.args.table.now in
    let n = number_small t.text.now t.starts.now t.count c.args.name c.see-number.result c.see-number.ensures.number in
    search rules

pub overflow_cast-result-in-Some-2 : goal.overflow_cast-result-in-Some-2
overflow_cast-result-in-Some-2 c =
    let s = c.see-number in
    let t = s.new.self in
    let n = number_small t.text.now t.starts.now t.count c.in-Some.at c.see-other.result c.see-other.ensures.number in
    let k = s.auto in
    let p = c.requires.starts_len in
    search rules

pub returns-in-Some-clause-depending_value : goal.returns-in-Some-clause-depending_value
returns-in-Some-clause-depending_value c =
    let a = c.args in
    let t = a.table.now in
    let s = c.see-number in
    let u = c.see-other in
    rw c.in-Some.is (two-names t.text.now t.starts.now t.count a.name c.requires.count_in_bounds c.requires.name_bound s.result s.new.self.count _ s.ensures.number s.ensures.count s.ensures.starts
    _ (ap (λ x. x.now) s.ensures.text) c.in-Some.at (some_bound a.depending c.in-Some.at c.in-Some.is c.requires.depending_bound) u.result u.new.self.count _ u.ensures.number u.ensures.count u.ensures.starts).depending_value

pub returns-in-Some-clause-starts_after : goal.returns-in-Some-clause-starts_after
returns-in-Some-clause-starts_after c =
    let a = c.args in
    let t = a.table.now in
    let s = c.see-number in
    let u = c.see-other in
    rw c.in-Some.is (two-names t.text.now t.starts.now t.count a.name c.requires.count_in_bounds c.requires.name_bound s.result s.new.self.count _ s.ensures.number s.ensures.count s.ensures.starts
    _ (ap (λ x. x.now) s.ensures.text) c.in-Some.at (some_bound a.depending c.in-Some.at c.in-Some.is c.requires.depending_bound) u.result u.new.self.count _ u.ensures.number u.ensures.count u.ensures.starts).starts_after
