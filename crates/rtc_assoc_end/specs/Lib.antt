pub mod SoundContents
