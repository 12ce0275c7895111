-- A register just started, table by table.
use Rattle.std.proofs.Common.{◌≡◌, ◌*◌, replicate, ap}
use Rattle.rules.specs.Heads.{StartedHead}
use Rattle.rules.specs.Contents.{Contents, closed_record}
use Rattle.rules.specs.Making.{JustStarted}
use Rattle.rules.specs.Registers.{Register}

pub record Fresh {V : Type 0} (s : Register V) : Type 0 where
  pub highest_is : s.head.highest ≡ 0
  pub ended_is : s.head.ended ≡ 0
  pub active_is : s.head.active ≡ 0
  pub written_are : s.tables.written ≡ replicate s.head.sizes.cells 0
  pub read_are : s.tables.read ≡ replicate s.head.sizes.cells 0
  pub jobs_are : s.tables.jobs ≡ replicate s.head.sizes.crews closed_record
  pub flags_are : s.tables.flags ≡ replicate (s.head.sizes.crews * s.head.sizes.cells) 0

pub fresh : {V : Type 0} (s : Register V) → JustStarted s.head s.tables → Fresh s
fresh {V} s j = record {
  highest_is = ap (λ (h : StartedHead). h.highest) j.head_fresh;
  ended_is = ap (λ (h : StartedHead). h.ended) j.head_fresh;
  active_is = ap (λ (h : StartedHead). h.active) j.head_fresh;
  written_are = ap (λ (t : Contents V). t.written) j.contents_fresh;
  read_are = ap (λ (t : Contents V). t.read) j.contents_fresh;
  jobs_are = ap (λ (t : Contents V). t.jobs) j.contents_fresh;
  flags_are = ap (λ (t : Contents V). t.flags) j.contents_fresh;
}
