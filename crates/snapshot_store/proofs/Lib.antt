pub mod SnapLaws
