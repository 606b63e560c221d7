-- What `{}` prints of a refusal.
use Rattle.std.specs.Prelude.{ℕ, List, codes}
use Rattle.sdf_library.specs.declared.pager.PageRefusal.{PageRefusal}
use Rattle.sdf_library.specs.declared.pager.PageRefusal.TheVariants.{Failed, NoMemory}

abbrev pub page_message : PageRefusal → List ℕ
page_message Failed = codes "reading the file failed"
page_message NoMemory = codes "no memory"
