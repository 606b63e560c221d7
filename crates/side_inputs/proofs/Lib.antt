mod StableSorts
pub mod SameValues
