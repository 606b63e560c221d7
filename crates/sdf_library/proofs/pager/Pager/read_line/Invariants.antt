use Rattle.std.proofs.Common.{◌≡◌, ◌+◌, ◌-◌, ◌≤◌, length, true}
use Rattle.beam_ports.specs.Files.{KeepsOpenings}
use Rattle.sdf_library.specs.Paging.{HoldsFile, Serves, is_line_cut}
use Rattle.sdf_library.proofs.pager.Pager.read_line.Given as goal

abbrev pub invariant-blocks-2 : goal.invariant-blocks-2
invariant-blocks-2 g l = record {
  serves : Serves l.self l.p;
  cut : is_line_cut l.p l.self ≡ true;
  held : HoldsFile (g.S.Store.opened l.store l.self.file) l.self;
  file : l.self.file ≡ l.initial.self.file;
  len : l.self.len ≡ l.initial.self.len;
  quiet : l.self.quiet ≡ l.initial.self.quiet;
  told : g.S.Store.files l.store ≡ g.S.Store.files l.initial.store;
  kept : KeepsOpenings (g.S.Store.opened l.initial.store) (g.S.Store.opened l.store);
  counts : g.S.Store.faults l.initial.store ≤ g.S.Store.faults l.store;
}

abbrev pub decreases-blocks-2 : goal.decreases-blocks-2
decreases-blocks-2 g l = l.self.len - (l.self.base + length l.self.bytes)
