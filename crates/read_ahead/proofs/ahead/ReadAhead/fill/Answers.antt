use Rattle.std.proofs.Common.{ap, take, drop, length, ◌≡◌, ◌+◌, ◌-◌, ◌<◌, ◌≤◌, ◌∙◌, ◌++◌, List, ℕ, arith}
use Rattle.std.proofs.Math.Seq.{take-add}
use Rattle.std.proofs.lemmas.Result.{err_from_is_err_and}
use Rattle.std.proofs.lemmas.List.{with_items_is, length-drop, length-take, length-take-le}
use Rattle.read_ahead.specs.Buffers.{between}
use Rattle.read_ahead.proofs.Places.{between_same, between_more}
use Rattle.read_ahead.proofs.ahead.ReadAhead.fill.Goals as goal

pub returns-in_err-count-clause-err : goal.returns-in_err-count-clause-err
returns-in_err-count-clause-err g c =
    let p = err_from_is_err_and c.from_residual.result c.from_residual.ensures.1 in
    let self = c.compact.new.self in
    let ws = c.read_behind.new.octets in
    let len : length ws ≡ self.octets.len = omega arith in
    let w = with_items_is self.octets ws len in
    let e = c.in_err-count.ensures in
    rw (p.1) (ap (λ (l : List ℕ). between l self.from self.to) w ∙ between_same self.octets.items ws self.from self.to c.compact.ensures.front (e.kept ∙ ap (take self.to) c.deref_mut.ensures.value) ∙ c.compact.ensures.same, e.octets)

pub returns-clause-ok : goal.returns-clause-ok
returns-clause-ok g c =
    let self = c.compact.new.self in
    let ws = c.read_behind.new.octets in
    let len : length ws ≡ self.octets.len = omega arith in
    let w = with_items_is self.octets ws len in
    let n = c.in_ok-count.count in
    let e = c.in_ok-count.ensures in
    let behind = drop self.to ws in
    let bytes = take n behind in
    let room : n ≤ length behind = omega (arith, length-drop self.to ws, e.bound) in
    let held : self.to < length ws = omega (arith, c.requires, ap length c.compact.ensures.same, length-take (self.to - self.from) (drop self.from self.octets.items), length-drop self.from self.octets.items, c.compact.ensures.front) in
    let some : 0 < length behind = omega (arith, length-drop self.to ws) in
    let front : take (self.to + n) ws ≡ take self.to self.octets.items ++ bytes = take-add self.to n ws ∙ ap (λ (l : List ℕ). l ++ bytes) (e.kept ∙ ap (take self.to) c.deref_mut.ensures.value) in
    (bytes, length-take-le n behind room, ap (λ (l : List ℕ). between l self.from (self.to + n)) w ∙ between_more self.octets.items ws self.from self.to n bytes c.compact.ensures.front front ∙ ap (λ (l : List ℕ). l ++ bytes) c.compact.ensures.same, e.octets.0, λ z. e.octets.1 z some, omega arith)
